use Rattle.journal_file.specs.History.{called, LaidBy}
use Rattle.journal_file.proofs.chronicle.Chronicle.laid_by.Given as goal

abbrev pub ghost-beside : goal.ghost-beside
ghost-beside a = called a.self.now.history (LaidBy a._at)
