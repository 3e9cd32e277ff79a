-- One event more gives one reply more.
use Rattle.std.proofs.Common.{List, [], ◌∷◌, ◌++◌, fold}
use Rattle.machine_law.specs.Rules.{Rules}
use Rattle.hub_core.specs.declared.events.Event.{Event}
use Rattle.hub_core.specs.declared.events.Seen.{Seen}
use Rattle.hub_core.specs.Core.{CoreState, core_step, core_tells, all_told}
use Rattle.hub_core.specs.Stages.{IsTold, AreTold}

module _ {S C Q P E K : Type 0} (rules : Rules S C Q P E K) where
  pub told_push : (core : CoreState C E) (events : List (Event C Q)) (event : Event C Q) (replies : List (Seen K)) (seen : Seen K)
      → AreTold rules (all_told rules core events) replies
      → IsTold rules (core_tells rules (fold (core_step rules) core events) event) seen
      → AreTold rules (all_told rules core (events ++ event ∷ [])) (replies ++ seen ∷ [])
  told_push core [] event [] seen so last = (last, tt)
  told_push core [] event (r ∷ rs) seen so last = absurd so
  told_push core (e ∷ es) event [] seen so last = absurd so
  told_push core (e ∷ es) event (r ∷ rs) seen so last = (so.0, told_push (core_step rules core e) es event rs seen so.1 last)
