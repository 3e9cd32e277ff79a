-- What a command comes to on a world, where nothing is changed yet.
use Rattle.std.specs.Prelude.{◌≡◌, ⊤, Result, Ok, Err}
use Rattle.osm_change.specs.Moments.{HasShownMoments, RefusalHasShownEnd}
use Rattle.osm_change.specs.declared.answers.Answer.{Answer}
use Rattle.osm_change.specs.declared.refusals.Refusal.{Refusal}
use Rattle.osm_model.specs.Act.{Effect}
use Rattle.osm_model.specs.declared.faults.Fault.{Fault}
use Rattle.osm_model.specs.declared.faults.Fault.TheVariants as fault

-- something is done, and this is what it answers
pub record IsToldOf (expected : Result Effect Refusal) (answer : Answer) : Type 0 where
  pub done : Effect
  pub judged : expected ≡ Ok done
  pub told : done.answer ≡ answer

-- it answers what the rules say, unless memory ran out
abbrev pub Judges : Result Effect Refusal → Result Answer Fault → Type 0
Judges expected (Ok answer) = IsToldOf expected answer
Judges expected (Err fault.Memory) = ⊤
Judges expected (Err (fault.Refused r)) = expected ≡ Err r

-- every moment that it tells has a text
abbrev pub IsShown : Result Answer Fault → Type 0
IsShown (Ok answer) = HasShownMoments answer
IsShown (Err fault.Memory) = ⊤
IsShown (Err (fault.Refused r)) = RefusalHasShownEnd r

-- the answer alone of what a command comes to
abbrev pub told : Result Effect Refusal → Result Answer Refusal
told (Ok done) = Ok done.answer
told (Err r) = Err r
