use Rattle.journal_host.specs.Told.{taken_back}
use Rattle.osm_real.proofs.given.GivenTrace.back.Given as goal

abbrev pub ghost-beside_file : goal.ghost-beside_file
ghost-beside_file g a = taken_back a.self.now.told a._file.now
