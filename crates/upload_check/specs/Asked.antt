-- A whole upload that is asked for, and what it comes to.
use Rattle.std.specs.Prelude.{◌≡◌, ℕ, ◌+◌, Bool, true, List, [], ◌∷◌, length, Result, Ok, Err}
use Rattle.osm_base.specs.declared.people.User.{User}
use Rattle.osm_change.specs.Keys.{keys_of}
use Rattle.osm_change.specs.Moments.{RefusalHasShownEnd}
use Rattle.osm_change.specs.declared.operations.FirstIds.{FirstIds}
use Rattle.osm_change.specs.declared.operations.Op.{Op}
use Rattle.osm_change.specs.declared.operations.OpDone.{OpDone}
use Rattle.osm_change.specs.declared.refusals.Refusal.{Refusal}
use Rattle.osm_model.specs.Fold.{start, task, upload}
use Rattle.osm_model.specs.Operation.{operate}
use Rattle.osm_model.specs.Upload.{Upload}
use Rattle.osm_model.specs.declared.states.State.{State}
use Rattle.osm_model.specs.declared.uploads.Progress.{Progress}
use Rattle.diff_result.specs.Counted.{HasNumbers}
use Rattle.osm_world.specs.Beds.{first_ids}
use Rattle.osm_element.specs.declared.elements.Elements.{Elements}
use Rattle.upload_check.specs.declared.settles.Outcome.{Outcome}
use Rattle.upload_check.specs.declared.settles.Outcome.TheVariants.{Accepted, Refused}

-- the upload or the single change that is asked for, by whom, and to which changeset
pub record AskedUpload : Type 0 where
  pub user : User
  pub changeset : ℕ
  pub change : List Op
  pub single : Bool

-- a single change has one operation
abbrev pub IsAsked : AskedUpload → Type 0
IsAsked a = a.single ≡ true → length a.change ≡ 1

-- It is accepted at the stamp t, what its operations did is told, and their elements are numbered
-- from the ids that come next, for each of which there are enough numbers.
pub record IsAccepted (P : State) (a : AskedUpload) (t : ℕ) (ids : FirstIds) (done : List OpDone) : Type 0 where
  pub progress : Progress
  pub judged : upload P a.user t a.changeset a.change ≡ Ok progress
  pub rows : done ≡ progress.done
  pub each : length done ≡ length a.change
  pub first : ids ≡ first_ids P.elements
  pub keys : progress.keys ≡ keys_of ids a.change
  pub numbers : HasNumbers ids (length a.change)

-- it is refused, and a moment that is told has a text
pub record IsRefused (P : State) (a : AskedUpload) (t : ℕ) (r : Refusal) : Type 0 where
  pub judged : upload P a.user t a.changeset a.change ≡ Err r
  pub shown : RefusalHasShownEnd r

abbrev pub IsOutcome : State → AskedUpload → ℕ → Outcome → Type 0
IsOutcome P a t (Accepted first rows) = IsAccepted P a t first rows
IsOutcome P a t (Refused r) = IsRefused P a t r

-- how many of some operations are judged: those up to the first that is refused, that one included
abbrev pub judged_from : Upload → Result Progress Refusal → List Op → ℕ
judged_from u (Err r) ops = 0
judged_from u (Ok g) [] = 0
judged_from u (Ok g) (o ∷ ops) = 1 + judged_from u (operate u g o) ops

-- and of a change to whatever changeset
abbrev pub judged_count : Elements → List Op → ℕ
judged_count E ops = judged_from (task E 0 0 ops) (Ok (start E)) ops
