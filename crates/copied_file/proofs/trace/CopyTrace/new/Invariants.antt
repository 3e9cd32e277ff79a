use Rattle.copied_file.specs.Copied.{just_opened}
use Rattle.copied_file.proofs.trace.CopyTrace.new.Given as goal

abbrev pub ghost-begun : goal.ghost-begun
ghost-begun a = just_opened a._bytes.now a._counts
