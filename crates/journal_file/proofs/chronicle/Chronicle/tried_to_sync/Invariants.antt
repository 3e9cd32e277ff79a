use Rattle.journal_file.specs.History.{called, TriedToSync}
use Rattle.journal_file.proofs.chronicle.Chronicle.tried_to_sync.Given as goal

abbrev pub ghost-beside : goal.ghost-beside
ghost-beside a = called a.self.now.history TriedToSync
