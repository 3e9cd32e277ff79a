use Rattle.journal_file.specs.History.{called, TriedToLayBy}
use Rattle.journal_file.proofs.chronicle.Chronicle.tried_to_lay_by.Given as goal

abbrev pub ghost-beside : goal.ghost-beside
ghost-beside a = called a.self.now.history (TriedToLayBy a._at)
