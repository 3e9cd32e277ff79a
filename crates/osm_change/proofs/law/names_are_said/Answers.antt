use Rattle.osm_change.specs.Change.{names_given}
use Rattle.osm_change.proofs.Naming.{all-said}
use Rattle.osm_change.proofs.law.names_are_said.Goals as goal

pub returns : goal.returns
returns c = λ ops well n o at. all-said ops n (names_given o) (well.named n o at)
