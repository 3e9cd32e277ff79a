use Rattle.copied_file.specs.Copied.{asked, cut}
use Rattle.copied_file.proofs.trace.CopyTrace.cut_to.Given as goal

abbrev pub ghost-beside : goal.ghost-beside
ghost-beside a = asked a.self.now.copied a._file.now (cut a._done a._at)
