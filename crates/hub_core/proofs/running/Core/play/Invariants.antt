use Rattle.std.proofs.Common.{fold}
use Rattle.hub_core.specs.Core.{CoreState, core_step, all_told}
use Rattle.hub_core.specs.Stages.{StandsFor, AreTold}
use Rattle.hub_core.proofs.running.Core.play.Given as goal

-- the core stands for the one after the events so far, and the replies are those that they give
abbrev pub invariant-loop-event : goal.invariant-loop-event
invariant-loop-event g l =
    (core : CoreState _ _) → StandsFor g.M.Machine.rules core l.fn.self
    → StandsFor g.M.Machine.rules (fold (core_step g.M.Machine.rules) core l.yielded) l.self
    × AreTold g.M.Machine.rules (all_told g.M.Machine.rules core l.yielded) l.replies.items
