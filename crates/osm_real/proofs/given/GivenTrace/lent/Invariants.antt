use Rattle.journal_host.specs.Told.{lent_at}
use Rattle.osm_real.proofs.given.GivenTrace.lent.Given as goal

abbrev pub ghost-beside : goal.ghost-beside
ghost-beside a = lent_at a.self.now.told a._path.now a._bytes.now
