use Rattle.std.proofs.Common.{ap}
use Rattle.osm_model.specs.declared.states.State.{State}
use Rattle.osm_world.proofs.stores.Stores.apply.Goals as goal

pub returns-clause-done : goal.returns-clause-done
returns-clause-done c done e = ap (λ (Q : State). record Q { last = c.args.at }) (c.carry_out.ensures.done done e)
