use Rattle.copied_file.specs.Copied.{asked, synced}
use Rattle.copied_file.proofs.trace.CopyTrace.synced.Given as goal

abbrev pub ghost-beside : goal.ghost-beside
ghost-beside a = asked a.self.now.copied a._file.now (synced a._done)
