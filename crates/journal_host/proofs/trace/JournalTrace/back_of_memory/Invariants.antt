use Rattle.journal_host.specs.Told.{taken_back}
use Rattle.journal_host.proofs.trace.JournalTrace.back_of_memory.Given as goal

abbrev pub ghost-beside_memory : goal.ghost-beside_memory
ghost-beside_memory a = taken_back a.self.now.told a._file.now
