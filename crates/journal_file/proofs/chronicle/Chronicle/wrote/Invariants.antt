use Rattle.journal_file.specs.History.{called, Wrote}
use Rattle.journal_file.proofs.chronicle.Chronicle.wrote.Given as goal

abbrev pub ghost-beside : goal.ghost-beside
ghost-beside a = called a.self.now.history (Wrote a._at a._bytes.now)
