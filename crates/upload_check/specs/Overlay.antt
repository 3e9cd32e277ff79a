-- What an upload has come to after some of its operations, beside the elements of before.
use Rattle.std.specs.Prelude.{◌≡◌, ℕ, ◌-◌, ◌<◌, ◌≤◌, nat_lt, if◌then◌else◌, Bool, true, false, not, ◌&&◌, List, [], ◌∷◌, ◌++◌, length, take, filter_map, slice_get, Option, Some, None, is_some, option_and_then, option_to_list, unwrap_or}
use Rattle.std.specs.Map.{lookup}
use Rattle.std.specs.Option.{option_or}
use Rattle.std.specs.Ordering.{nat_cmp}
use Rattle.std.specs.BTreeMap.{is_at}
use Rattle.osm_base.specs.Key.{key_eq, lists_key}
use Rattle.osm_base.specs.Place.{Area, Position}
use Rattle.osm_base.specs.declared.keys.Kind.{Kind}
use Rattle.osm_base.specs.declared.keys.Kind.TheVariants as kind
use Rattle.osm_base.specs.declared.keys.Key.{Key}
use Rattle.osm_element.specs.Elements.{next_id, count, content_of, position_in, refs_in, users}
use Rattle.osm_element.specs.declared.contents.Content.{Content}
use Rattle.osm_element.specs.declared.elements.Elements.{Elements}
use Rattle.osm_change.specs.declared.operations.FirstIds.{FirstIds}
use Rattle.osm_change.specs.declared.operations.Op.{Op}
use Rattle.changeset_core.specs.Changeset.{new_position, widen_all}
use Rattle.osm_model.specs.declared.uploads.Progress.{Progress}
use Rattle.osm_world.specs.Beds.{first_ids, content_of_op}
use Rattle.upload_check.specs.declared.standings.Standing.{Standing}
use Rattle.upload_check.specs.declared.standings.Holds.{Holds}
use Rattle.upload_check.specs.declared.standings.Holds.TheVariants.{AsBefore, Nothing, FromOperation}

-- what is noted of elements of one kind: of those created, whose ids rise from the first new one, in
-- their order, of others by id
pub record KindNotes : Type 0 where
  pub first : ℕ
  pub created : List Standing
  pub older : List (ℕ × Standing)

abbrev pub no_notes_from : ℕ → KindNotes
no_notes_from first = record { first = first; created = []; older = [] }

abbrev pub created_at : KindNotes → ℕ → Option Standing
created_at n id = if nat_lt id n.first then None else slice_get n.created (id - n.first)

abbrev pub older_at : KindNotes → ℕ → Option Standing
older_at n id = lookup (is_at (nat_cmp id)) n.older

-- of the created ones first
abbrev pub noted_at : KindNotes → ℕ → Option Standing
noted_at n id = option_or (created_at n id) (older_at n id)

-- what is noted of elements
pub record Notes : Type 0 where
  pub nodes : KindNotes
  pub ways : KindNotes
  pub relations : KindNotes

abbrev pub notes_of : Notes → Kind → KindNotes
notes_of n kind.Node = n.nodes
notes_of n kind.Way = n.ways
notes_of n kind.Relation = n.relations

abbrev pub noted : Notes → Key → Option Standing
noted n k = noted_at (notes_of n k.kind) k.id

-- something is noted of an element, so another standing of it takes no memory
abbrev pub IsNoted : Notes → Key → Type 0
IsNoted n k = is_some (noted n k) ≡ true

-- the elements of the operations so far, the ids that come next, what is noted, and the box of what
-- was touched
pub record Overlaid : Type 0 where
  pub keys : List Key
  pub next : FirstIds
  pub notes : Notes
  pub touched : Option Area

-- an overlay over the elements of before, for some operations
pub record Sight : Type 0 where
  pub before : Elements
  pub operations : List Op
  pub over : Overlaid

abbrev pub sight : Elements → List Op → Overlaid → Sight
sight E ops o = record { before = E; operations = ops; over = o }

-- where an element stands before the upload
abbrev pub standing_before : Elements → Key → Standing
standing_before E k = record { versions = count E k; holds = AsBefore; users = length (users E k) }

-- where an element stands: as before, where nothing is noted of it
abbrev pub standing_in : Elements → Notes → Key → Standing
standing_in E n k = unwrap_or (noted n k) (standing_before E k)

abbrev pub standing : Sight → Key → Standing
standing s k = standing_in s.before s.over.notes k

-- what an element holds. An operation's content names what those before it are of
abbrev pub content_by : Sight → Key → Holds → Option (Content ℕ)
content_by s k AsBefore = content_of s.before k
content_by s k Nothing = None
content_by s k (FromOperation place) = option_and_then (content_of_op (take place s.over.keys)) (slice_get s.operations place)

abbrev pub content_now : Sight → Key → Option (Content ℕ)
content_now s k = content_by s k (standing s k).holds

abbrev pub is_visible : Sight → Key → Bool
is_visible s k = is_some (content_now s k)

-- a is visible, lists b, and isn't b
abbrev pub uses : Sight → Key → Key → Bool
uses s a b = lists_key (refs_in (content_now s a)) b && not (key_eq a b)

-- where an element lies, if it is a visible node
abbrev pub position_now : Sight → Key → Option Position
position_now s k = option_and_then position_in (content_now s k)

-- the least box of what a new content of an element touches, if that is anything
abbrev pub touched_now : Sight → Key → Option (Content ℕ) → Option Area
touched_now s k new =
    widen_all
    None
    (filter_map (position_now s) (k ∷ (refs_in (content_now s k) ++ refs_in new)) ++ option_to_list (new_position new))

-- the content isn't that of a later operation
abbrev pub IsEarlier : ℕ → Holds → Type 0
IsEarlier n AsBefore = Unit {0}
IsEarlier n Nothing = Unit {0}
IsEarlier n (FromOperation place) = place < n

-- The overlay stands for what the operations so far left of the elements of before: for all of it
-- that the tests of the next operation look at.
pub record StandsFor (s : Sight) (g : Progress) : Type 0 where
  pub keys : s.over.keys ≡ g.keys
  pub next : s.over.next ≡ first_ids g.elements
  pub versions : (k : Key) → (standing s k).versions ≡ count g.elements k
  pub content : (k : Key) → content_now s k ≡ content_of g.elements k
  pub users : (k : Key) → (standing s k).users ≡ length (users g.elements k)
  -- only elements of the operations so far hold what they didn't before
  pub changed : (k : Key) → lists_key s.over.keys k ≡ false → (standing s k).holds ≡ AsBefore
  pub earlier : (k : Key) → IsEarlier (length s.over.keys) (standing s k).holds
  -- the elements of the operations so far have ids that were given, and none was taken back
  pub given : (place : ℕ) (k : Key) → slice_get s.over.keys place ≡ Some k → (0 < k.id) × (k.id < next_id g.elements k.kind)
  pub grown : (q : Kind) → next_id s.before q ≤ next_id g.elements q
  pub touched : s.over.touched ≡ g.touched

-- Two overlays that stand for the same, whatever it is: they have the same elements, the same ids that
-- come next and the same box, and each element stands alike. What is noted may differ.
pub record StandsAlike (E : Elements) (old new : Overlaid) : Type 0 where
  pub keys : new.keys ≡ old.keys
  pub next : new.next ≡ old.next
  pub standings : (k : Key) → standing_in E new.notes k ≡ standing_in E old.notes k
  pub touched : new.touched ≡ old.touched
