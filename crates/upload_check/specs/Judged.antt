-- One operation judged on an overlay, as the rules judge it on what the overlay stands for.
use Rattle.std.specs.Prelude.{◌≡◌, ℕ, List, [], ◌∷◌, ◌++◌, length, Ok, Err}
use Rattle.osm_element.specs.declared.elements.Elements.{Elements}
use Rattle.osm_change.specs.Keys.{key_of, ids_after}
use Rattle.osm_change.specs.Moments.{RefusalHasShownEnd}
use Rattle.osm_change.specs.declared.operations.Op.{Op}
use Rattle.osm_change.specs.declared.operations.OpDone.{OpDone}
use Rattle.osm_model.specs.Fold.{task}
use Rattle.osm_model.specs.Operation.{operate}
use Rattle.osm_model.specs.declared.uploads.Progress.{Progress}
use Rattle.upload_check.specs.Overlay.{Overlaid, Sight, sight, StandsFor}
use Rattle.upload_check.specs.declared.judged.Judged.{Judged}
use Rattle.upload_check.specs.declared.judged.Judged.TheVariants.{Done, Refused}

-- the operation is passed, and the overlay then stands for what it left
pub record Passes (E : Elements) (ops : List Op) (c t : ℕ) (o : Op) (g : Progress) (new : Overlaid) (d : OpDone) : Type 0 where
  pub left : Progress
  pub passed : operate (task E c t ops) g o ≡ Ok left
  pub done : left.done ≡ g.done ++ d ∷ []
  pub stands : StandsFor (sight E ops new) left

-- whatever progress the overlay stands for, of whatever changeset and stamp
abbrev pub IsJudged : Elements → List Op → Op → Overlaid → Overlaid → Judged → Type 0
IsJudged E ops o old new (Done d) = (c t : ℕ) (g : Progress) → StandsFor (sight E ops old) g → Passes E ops c t o g new d
IsJudged E ops o old new (Refused r) = (c t : ℕ) (g : Progress) → StandsFor (sight E ops old) g → operate (task E c t ops) g o ≡ Err r

-- the element of the operation is added to those before
pub record GoesOn (o : Op) (old new : Overlaid) : Type 0 where
  pub keys : new.keys ≡ old.keys ++ key_of old.keys old.next o ∷ []
  pub next : new.next ≡ ids_after old.next o

-- a refusal leaves the overlay, and tells no moment that has no text
abbrev pub Leaves : Op → Overlaid → Overlaid → Judged → Type 0
Leaves o old new (Done d) = GoesOn o old new
Leaves o old new (Refused r) = (new ≡ old) × RefusalHasShownEnd r

-- there is something for which the overlay stands, after so many operations
pub record IsAt (s : Sight) (place : ℕ) : Type 0 where
  pub progress : Progress
  pub stands : StandsFor s progress
  pub counted : length s.over.keys ≡ place
