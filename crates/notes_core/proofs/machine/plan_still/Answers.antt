use Rattle.std.proofs.Common.{sym, ◌∙◌}
use Rattle.notes_core.specs.World.{state_of}
use Rattle.notes_core.proofs.Plans.{stands_alone, stands_or_differs}
use Rattle.notes_core.proofs.machine.plan_still.Goals as goal

pub returns-in-New : goal.returns-in-New
returns-in-New c = stands_alone c.args.plan.now (state_of c.args.world.now) _ (sym c.subject.ensures ∙ c.in-New.is)

pub returns-in-Known : goal.returns-in-Known
returns-in-Known c =
    stands_or_differs c.args.plan.now (state_of c.args.world.now) c.in-Known.id c.count_still.result (sym c.subject.ensures ∙ c.in-Known.is) c.count_still.ensures
