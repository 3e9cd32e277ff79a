use Rattle.std.proofs.Common.{sym, subst}
use Rattle.std.specs.Prelude.{Result, MatchResult}
use Rattle.osm_later.specs.declared.looks.Look.{Look}
use Rattle.osm_later.specs.Plan.{StandsOn}
use Rattle.osm_later.specs.Still.{Differs}
use Rattle.osm_world.specs.World.{state_of}
use Rattle.upload_check.specs.Planned.{plan_of}
use Rattle.upload_check.proofs.stills.still.Goals as goal

pub returns : goal.returns
returns c =
    let E = (state_of c.args.world.now).elements in
    subst
    (λ (r : Result (Unit {0}) Look). MatchResult r (λ _. StandsOn (plan_of c.args.plan.now) E) (λ look. (StandsOn (plan_of c.args.plan.now) E → ⊥) × Differs look (plan_of c.args.plan.now) E))
    (sym c.first_difference.ensures)
    (c.stills_say_where_they_differ.ensures.says E (plan_of c.args.plan.now) c.laws.ensures.rising)
