use Rattle.copied_file.specs.Copied.{without}
use Rattle.copied_file.proofs.trace.CopyTrace.without.Given as goal

abbrev pub ghost-beside : goal.ghost-beside
ghost-beside a = without a.self.now.copied a._file.now
