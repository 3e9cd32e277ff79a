use Rattle.journal_file.specs.History.{called, TriedToCut}
use Rattle.journal_file.proofs.chronicle.Chronicle.tried_to_cut.Given as goal

abbrev pub ghost-beside : goal.ghost-beside
ghost-beside a = called a.self.now.history (TriedToCut a._at)
