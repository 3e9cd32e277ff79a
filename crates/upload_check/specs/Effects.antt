-- What an operation that is passed makes of the overlay.
use Rattle.std.specs.Prelude.{◌≡◌, ℕ, ◌+◌, ◌<◌, Bool, true, false, if◌then◌else◌, List, [], ◌∷◌, ◌++◌, length, Option, None}
use Rattle.osm_base.specs.Key.{key_eq}
use Rattle.osm_base.specs.Place.{Area}
use Rattle.osm_base.specs.declared.keys.Key.{Key}
use Rattle.osm_element.specs.Elements.{refs_in}
use Rattle.osm_element.specs.declared.elements.Elements.{Elements}
use Rattle.osm_change.specs.Keys.{ids_after}
use Rattle.osm_change.specs.declared.operations.Op.{Op}
use Rattle.osm_change.specs.declared.operations.Op.TheVariants.{Create, Modify, Delete}
use Rattle.osm_change.specs.declared.operations.OpDone.{OpDone}
use Rattle.osm_change.specs.declared.operations.OpDone.TheVariants.{Applied, Skipped}
use Rattle.changeset_core.specs.Changeset.{join_areas}
use Rattle.osm_world.specs.Beds.{content_of_op}
use Rattle.upload_check.specs.Overlay.{Notes, Overlaid, Sight, IsNoted, standing_in, standing, content_now, touched_now}
use Rattle.upload_check.specs.Users.{others, AreLowered, AreRaised}
use Rattle.upload_check.specs.declared.standings.Holds.{Holds}
use Rattle.upload_check.specs.declared.standings.Standing.{Standing}
use Rattle.upload_check.specs.declared.standings.Holds.TheVariants.{Nothing, FromOperation}
use Rattle.upload_check.specs.declared.checks.Step.{Step}

-- how many elements use each
abbrev pub user_counts : Elements → Notes → Key → ℕ
user_counts E n b = (standing_in E n b).users

-- each other element that this one lists has a user
pub record HasUsers (s : Sight) (k : Key) : Type 0 where
  pub each : (b : Key) → others k (refs_in (content_now s k)) b ≡ true → 0 < (standing s b).users

-- what an operation creates holds nothing yet
abbrev pub IsFresh : Sight → Op → Key → Type 0
IsFresh s (Create placeholder content tags) k = content_now s k ≡ None
IsFresh s (Modify name version content tags) k = Unit {0}
IsFresh s (Delete kind name version if_unused) k = Unit {0}

-- two notes that differ in numbers of users alone
pub record SameElements (E : Elements) (old new : Notes) : Type 0 where
  pub versions : (b : Key) → (standing_in E new b).versions ≡ (standing_in E old b).versions
  pub holds : (b : Key) → (standing_in E new b).holds ≡ (standing_in E old b).holds

-- each element stands in the new notes as in the old, which may have less
abbrev pub AreAsBefore : Elements → Notes → Notes → Type 0
AreAsBefore E old new = (b : Key) → standing_in E new b ≡ standing_in E old b

-- something is still noted of each element of which something was
abbrev pub StayNoted : Notes → Notes → Type 0
StayNoted old new = (b : Key) → IsNoted old b → IsNoted new b

-- where the content of an operation stands
abbrev pub holds_of : ℕ → Op → Holds
holds_of place (Create placeholder content tags) = FromOperation place
holds_of place (Modify name version content tags) = FromOperation place
holds_of place (Delete kind name version if_unused) = Nothing

-- one element stands there, and each other as before
pub record IsSet (E : Elements) (k : Key) (at : Standing) (old new : Notes) : Type 0 where
  pub each : (b : Key) → standing_in E new b ≡ (if key_eq b k then at else standing_in E old b)

-- one version more of an element, which then holds this
pub record IsRevised (E : Elements) (k : Key) (holds : Holds) (old new : Notes) : Type 0 where
  pub versions : (b : Key) → (standing_in E new b).versions ≡ (if key_eq b k then (standing_in E old b).versions + 1 else (standing_in E old b).versions)
  pub held : (b : Key) → (standing_in E new b).holds ≡ (if key_eq b k then holds else (standing_in E old b).holds)
  pub users : (b : Key) → (standing_in E new b).users ≡ (standing_in E old b).users

-- the same, while each of some elements has a user less, and each of others then a user more
pub record IsMade (E : Elements) (k : Key) (holds : Holds) (ended begun : List Key) (old new : Notes) : Type 0 where
  pub counts : Key → ℕ
  pub lowered : AreLowered k ended (user_counts E old) counts
  pub raised : AreRaised k begun counts (user_counts E new)
  pub versions : (b : Key) → (standing_in E new b).versions ≡ (if key_eq b k then (standing_in E old b).versions + 1 else (standing_in E old b).versions)
  pub held : (b : Key) → (standing_in E new b).holds ≡ (if key_eq b k then holds else (standing_in E old b).holds)

-- the element's old references are one user less, its new ones one more
pub record IsApplied (s : Sight) (o : Op) (k : Key) (new : Notes) : Type 0 where
  pub counts : Key → ℕ
  pub lowered : AreLowered k (refs_in (content_now s k)) (user_counts s.before s.over.notes) counts
  pub raised : AreRaised k (refs_in (content_of_op s.over.keys o)) counts (user_counts s.before new)
  pub versions : (b : Key) → (standing_in s.before new b).versions ≡ (if key_eq b k then (standing s b).versions + 1 else (standing s b).versions)
  pub holds : (b : Key) → (standing_in s.before new b).holds ≡ (if key_eq b k then holds_of (length s.over.keys) o else (standing s b).holds)

abbrev pub AreNotesOf : Bool → Sight → Op → Key → Notes → Type 0
AreNotesOf true s o k new = IsApplied s o k new
AreNotesOf false s o k new = new ≡ s.over.notes

-- what a step does to an element of so many versions
abbrev pub done_with : Step → ℕ → OpDone
done_with step versions = if step.applies then Applied (versions + 1) else Skipped versions

abbrev pub done_of : Sight → Step → OpDone
done_of s step = if step.applies then Applied ((standing s step.key).versions + 1) else Skipped (standing s step.key).versions

-- the box after an operation
abbrev pub touched_after : Bool → Sight → Op → Key → Option Area
touched_after true s o k = join_areas s.over.touched (touched_now s k (content_of_op s.over.keys o))
touched_after false s o k = s.over.touched

-- the overlay after an operation
pub record IsEntered (s : Sight) (o : Op) (step : Step) (new : Overlaid) : Type 0 where
  pub keys : new.keys ≡ s.over.keys ++ step.key ∷ []
  pub next : new.next ≡ ids_after s.over.next o
  pub notes : AreNotesOf step.applies s o step.key new.notes
  pub touched : new.touched ≡ touched_after step.applies s o step.key
