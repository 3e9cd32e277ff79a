use Rattle.journal_host.specs.Told.{none_lent}
use Rattle.osm_real.proofs.given.GivenTrace.new.Given as goal

abbrev pub ghost-of : goal.ghost-of
ghost-of a = none_lent
