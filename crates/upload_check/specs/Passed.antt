-- An operation that is passed, with what was seen of its element and of what it lists.
use Rattle.std.specs.Prelude.{◌≡◌, true, false, List, find, filter_map, Option, Some, None, option_and_then, option_map, option_to_list, Result, Ok, Err}
use Rattle.osm_base.specs.Place.{Area, Position}
use Rattle.osm_base.specs.declared.keys.Kind.{Kind}
use Rattle.osm_base.specs.declared.keys.Key.{Key}
use Rattle.osm_element.specs.Elements.{position_in, refs, refs_in}
use Rattle.osm_element.specs.declared.contents.Content.{Content}
use Rattle.osm_change.specs.declared.operations.Name.{Name}
use Rattle.osm_change.specs.declared.operations.Named.{Named}
use Rattle.osm_change.specs.declared.operations.Op.{Op}
use Rattle.osm_change.specs.declared.refusals.Refusal.{Refusal}
use Rattle.changeset_core.specs.Changeset.{widen_all}
use Rattle.osm_model.specs.Names.{with_ids}
use Rattle.osm_world.specs.Beds.{content_of_op}
use Rattle.upload_check.specs.Overlay.{Sight, content_now, position_now, standing}
use Rattle.upload_check.specs.Checks.{element, is_missing, known, references}
use Rattle.upload_check.specs.declared.checks.Known.{Known}
use Rattle.upload_check.specs.declared.checks.Passed.{Passed}
use Rattle.upload_check.specs.declared.checks.Step.{Step}

-- where an element lies, if it is visible: nowhere, if it is no node
abbrev pub place_seen : Sight → Key → Option (Option Position)
place_seen s k = option_map position_in (content_now s k)

-- the same of an element that is named
abbrev pub place_named : Sight → Kind → Name → Option (Option Position)
place_named s q name = option_and_then (place_seen s) (known s q name)

abbrev pub position_named : Sight → Named → Option Position
position_named s r = option_and_then (position_now s) (known s r.kind r.name)

-- one more is visible, and its place is in the box
pub record IsWidened (s : Sight) (r : Named) (before after : Option Area) : Type 0 where
  pub visible : is_missing s r ≡ false
  pub area : after ≡ widen_all before (option_to_list (position_named s r))

-- or it isn't visible
abbrev pub IsSeen : Sight → Named → Option Area → Option (Option Area) → Type 0
IsSeen s r area (Some more) = IsWidened s r area more
IsSeen s r area None = is_missing s r ≡ true

-- all are visible, and this is the least box of their places
pub record AllSeen (s : Sight) (rs : List Named) (box : Option Area) : Type 0 where
  pub visible : find (is_missing s) rs ≡ None
  pub area : box ≡ widen_all None (filter_map (position_named s) rs)

-- or this is the first that isn't visible
abbrev pub AreSeen : Sight → List Named → Result (Option Area) Named → Type 0
AreSeen s rs (Ok area) = AllSeen s rs area
AreSeen s rs (Err r) = find (is_missing s) rs ≡ Some r

-- the least box of what is listed
abbrev pub box_of : Sight → List Key → Option Area
box_of s ks = widen_all None (filter_map (position_now s) ks)

-- what a content lists is visible, and this is its box
pub record AreVisible (s : Sight) (new : Content Name) (box : Option Area) : Type 0 where
  pub fine : references s new ≡ Ok tt
  pub area : box ≡ box_of s (refs (with_ids s.over.keys new))

abbrev pub AreReferred : Sight → Content Name → Result (Option Area) Refusal → Type 0
AreReferred s new (Ok area) = AreVisible s new area
AreReferred s new (Err r) = references s new ≡ Err r

-- the element that is named, and where it stands
pub record IsKnown (s : Sight) (q : Kind) (name : Name) (it : Known) : Type 0 where
  pub key : element s q name ≡ Ok it.key
  pub stood : it.stood ≡ standing s it.key

abbrev pub IsElement : Sight → Kind → Name → Result Known Refusal → Type 0
IsElement s q name (Ok it) = IsKnown s q name it
IsElement s q name (Err r) = element s q name ≡ Err r

-- it is passed, or refused, as is told, with where its element stands and the box of what it lists
pub record IsPassed (s : Sight) (told : Result Step Refusal) (box : Option Area) (p : Passed) : Type 0 where
  pub step : told ≡ Ok p.step
  pub stood : p.stood ≡ standing s p.step.key
  pub area : p.area ≡ box

abbrev pub IsTested : Sight → Result Step Refusal → Option Area → Result Passed Refusal → Type 0
IsTested s told area (Ok p) = IsPassed s told area p
IsTested s told area (Err r) = told ≡ Err r

abbrev pub box_listed : Sight → Op → Option Area
box_listed s o = box_of s (refs_in (content_of_op s.over.keys o))
