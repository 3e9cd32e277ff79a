-- What is told of a command, from what is done.
use Rattle.std.proofs.Common.{◌≡◌, Ok, Err, refl, ap}
use Rattle.std.specs.Prelude.{Result, is_ok}
use Rattle.osm_base.specs.Outcome.{◌>>=◌}
use Rattle.osm_change.specs.declared.answers.Answer.{Answer}
use Rattle.osm_change.specs.declared.refusals.Refusal.{Refusal}
use Rattle.osm_model.specs.Act.{Effect}
use Rattle.osm_model.specs.Outcome.{Gives}
use Rattle.osm_model.specs.declared.faults.Fault.{Fault}
use Rattle.osm_model.specs.declared.faults.Fault.TheVariants as fault
use Rattle.map_machine.specs.Judging.{Judges, told}

-- who gives the answer alone, or refuses, judges the command
pub judges : (expected : Result Effect Refusal) (result : Result Answer Fault) → Gives (told expected) result → Judges expected result
judges (Ok done) (Ok answer) given = record { done = done; judged = refl; told = cc }
judges (Ok done) (Err fault.Memory) given = given
judges (Ok done) (Err (fault.Refused r)) given = cc
judges (Err e) (Ok answer) given = absurd cc
judges (Err e) (Err fault.Memory) given = given
judges (Err e) (Err (fault.Refused r)) given = let same : e ≡ r = cc in ap (λ (x : Refusal). Err x) same

-- what goes on is done exactly where that was
pub goes-on : {A B : Type 0} (came : Result A Refusal) (f : A → B) → is_ok (came >>= λ a. Ok (f a)) ≡ is_ok came
goes-on (Ok a) f = refl
goes-on (Err r) f = refl
