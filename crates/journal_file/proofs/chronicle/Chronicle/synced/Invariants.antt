use Rattle.journal_file.specs.History.{called, Synced}
use Rattle.journal_file.proofs.chronicle.Chronicle.synced.Given as goal

abbrev pub ghost-beside : goal.ghost-beside
ghost-beside a = called a.self.now.history Synced
