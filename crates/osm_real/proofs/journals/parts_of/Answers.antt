use Rattle.osm_real.proofs.Keepers.{none_found}
use Rattle.osm_real.proofs.journals.parts_of.Goals as goal

pub returns-in-None : goal.returns-in-None
returns-in-None c = λ names. absurd (none_found c.args.path.now c.in-None.ensures.cases names)
