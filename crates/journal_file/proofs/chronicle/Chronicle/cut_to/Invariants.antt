use Rattle.journal_file.specs.History.{called, CutTo}
use Rattle.journal_file.proofs.chronicle.Chronicle.cut_to.Given as goal

abbrev pub ghost-beside : goal.ghost-beside
ghost-beside a = called a.self.now.history (CutTo a._at)
