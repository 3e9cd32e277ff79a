use Rattle.copied_file.specs.Copied.{asked, written}
use Rattle.copied_file.proofs.trace.CopyTrace.wrote.Given as goal

abbrev pub ghost-beside : goal.ghost-beside
ghost-beside a = asked a.self.now.copied a._file.now (written a._done a._at a._bytes.now)
