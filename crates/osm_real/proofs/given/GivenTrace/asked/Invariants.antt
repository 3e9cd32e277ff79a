use Rattle.journal_host.specs.Told.{asked_at}
use Rattle.osm_real.proofs.given.GivenTrace.asked.Given as goal

abbrev pub ghost-beside : goal.ghost-beside
ghost-beside a = asked_at a.self.now.told a._path.now
