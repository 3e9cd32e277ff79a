use Rattle.std.proofs.Common.{sym, subst}
use Rattle.osm_model.specs.declared.states.State.{State}
use Rattle.osm_model.specs.Timely.{IsTimely}
use Rattle.osm_model.proofs.Replayed.{replay_timely}
use Rattle.plain_model.proofs.journals.Journal.state.Goals as goal

pub returns-clause-timely : goal.returns-clause-timely
returns-clause-timely c =
    subst (λ (P : State). IsTimely P) (sym c.self.invariant.replayed) (replay_timely c.self.inside.entries.items)
