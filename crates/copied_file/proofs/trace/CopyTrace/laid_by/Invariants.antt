use Rattle.copied_file.specs.Copied.{asked, laid}
use Rattle.copied_file.proofs.trace.CopyTrace.laid_by.Given as goal

abbrev pub ghost-beside : goal.ghost-beside
ghost-beside a = asked a.self.now.copied a._file.now (laid a._done a._at)
