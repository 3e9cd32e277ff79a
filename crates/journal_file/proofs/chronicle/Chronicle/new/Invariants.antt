use Rattle.journal_file.specs.History.{opened}
use Rattle.journal_file.proofs.chronicle.Chronicle.new.Given as goal

abbrev pub ghost-begun : goal.ghost-begun
ghost-begun a = opened a._bytes.now
