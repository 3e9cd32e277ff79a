use Rattle.journal_file.specs.History.{called, TriedToWrite}
use Rattle.journal_file.proofs.chronicle.Chronicle.tried_to_write.Given as goal

abbrev pub ghost-beside : goal.ghost-beside
ghost-beside a = called a.self.now.history (TriedToWrite a._at a._bytes.now)
