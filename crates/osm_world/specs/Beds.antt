-- What the operations of an entry need, laid by before the first of them.
use Rattle.std.specs.Prelude.{◌≡◌, ⊤, ℕ, ◌+◌, ◌≤◌, Bool, true, ◌&&◌, if◌then◌else◌, List, [], ◌∷◌, ◌++◌, length, Option, Some, None}
use Rattle.osm_base.specs.Key.{key_eq}
use Rattle.osm_base.specs.Place.{Position}
use Rattle.osm_base.specs.declared.keys.Kind.TheVariants as kind
use Rattle.osm_base.specs.declared.keys.Key.{Key}
use Rattle.osm_element.specs.Elements.{next_id, is_visible}
use Rattle.osm_element.specs.Tags.{Tag}
use Rattle.osm_element.specs.declared.contents.Content.{Content}
use Rattle.osm_element.specs.declared.contents.Content.TheVariants as content
use Rattle.osm_element.specs.declared.elements.Elements.{Elements}
use Rattle.osm_element.specs.Version.{Version}
use Rattle.osm_change.specs.Keys.{ids_after, key_of}
use Rattle.osm_change.specs.declared.operations.Name.{Name}
use Rattle.osm_change.specs.declared.operations.FirstIds.{FirstIds}
use Rattle.osm_change.specs.declared.operations.Op.{Op}
use Rattle.osm_change.specs.declared.operations.Op.TheVariants.{Create, Modify, Delete}
use Rattle.osm_model.specs.Names.{with_ids}
use Rattle.indexed_map.specs.Indexed.{IsListOf, is_unused, times_new}
use Rattle.indexed_map.specs.Placed.{enters}
use Rattle.osm_world.specs.declared.beds.Bed.{Bed}
use Rattle.osm_world.specs.declared.beds.Places.{Places}
use Rattle.osm_world.specs.declared.beds.Places.TheVariants as places

-- the ids that come next
abbrev pub first_ids : Elements → FirstIds
first_ids E = record { node = next_id E kind.Node; way = next_id E kind.Way; relation = next_id E kind.Relation }

-- what the element holds then, where a version is made
abbrev pub content_of_op : List Key → Op → Option (Content ℕ)
content_of_op ks (Create placeholder content tags) = Some (with_ids ks content)
content_of_op ks (Modify name version content tags) = Some (with_ids ks content)
content_of_op ks (Delete kind name version if_unused) = None

abbrev pub tags_of_op : Op → List Tag
tags_of_op (Create placeholder content tags) = tags
tags_of_op (Modify name version content tags) = tags
tags_of_op (Delete kind name version if_unused) = []

abbrev pub place_in : Content Name → Option Position
place_in (content.Node at) = Some at
place_in (content.Way nodes) = None
place_in (content.Relation members) = None

-- where an operation puts a node
abbrev pub place_of_op : Op → Option Position
place_of_op (Create placeholder content tags) = place_in content
place_of_op (Modify name version content tags) = place_in content
place_of_op (Delete kind name version if_unused) = None

-- whether a version is made: a delete may be skipped
abbrev pub makes : Elements → Key → Op → Bool
makes E k (Create placeholder content tags) = true
makes E k (Modify name version content tags) = true
makes E k (Delete kind name version if_unused) = is_visible E k && is_unused E k

abbrev pub version_of : ℕ → ℕ → Option (Content ℕ) → List Tag → Version
version_of c t content tags = record { content = content; tags = tags; changeset = c; stamp = t; redaction = None }

abbrev pub version_of_op : ℕ → ℕ → List Key → Op → Version
version_of_op c t ks o = version_of c t (content_of_op ks o) (tags_of_op o)

-- a box is there, and room for so many ids of nodes
abbrev pub HasNodes : ℕ → Places → Type 0
HasNodes n places.None = ⊥
HasNodes n (places.Nodes boxed) = (boxed.room.items ≡ []) × (n ≤ boxed.room.free)
HasNodes n (places.Members boxed) = ⊥

-- the same for members
abbrev pub HasMembers : ℕ → Places → Type 0
HasMembers n places.None = ⊥
HasMembers n (places.Nodes boxed) = ⊥
HasMembers n (places.Members boxed) = (boxed.room.items ≡ []) × (n ≤ boxed.room.free)

-- there are places for the references of a content
abbrev pub HasPlaces : Content Name → Places → Type 0
HasPlaces (content.Node at) p = ⊤
HasPlaces (content.Way nodes) p = HasNodes (length nodes) p
HasPlaces (content.Relation named) p = HasMembers (length named) p

abbrev pub HasPlacesFor : Op → Places → Type 0
HasPlacesFor (Create placeholder content tags) p = HasPlaces content p
HasPlacesFor (Modify name version content tags) p = HasPlaces content p
HasPlacesFor (Delete kind name version if_unused) p = ⊤

-- what was laid by serves an operation after others with these keys
pub record IsBedOf (ks : List Key) (ids : FirstIds) (o : Op) (b : Bed) : Type 0 where
  pub key : b.key ≡ key_of ks ids o
  pub listed : IsListOf (content_of_op ks o) b.listed
  pub places : HasPlacesFor o b.places

-- the same of an operation with this element and this content
pub record IsLaidFor (ks : List Key) (k : Key) (c : Content Name) (b : Bed) : Type 0 where
  pub key : b.key ≡ k
  pub listed : IsListOf (Some (with_ids ks c)) b.listed
  pub places : HasPlaces c b.places

-- one for each operation
abbrev pub AreBedsOf : List Key → FirstIds → List Op → List Bed → Type 0
AreBedsOf ks ids [] bs = ⊤
AreBedsOf ks ids (o ∷ ops) [] = ⊥
AreBedsOf ks ids (o ∷ ops) (b ∷ bs) = IsBedOf ks ids o b × AreBedsOf (ks ++ b.key ∷ []) (ids_after ids o) ops bs

-- how many versions of an element they may make
abbrev pub made : List Bed → Key → ℕ
made [] k = 0
made (b ∷ bs) k = (if key_eq k b.key then 1 else 0) + made bs k

-- how many of them list an element that no version of theirs lists so far
abbrev pub begun : Elements → List Bed → Key → ℕ
begun E [] x = 0
begun E (b ∷ bs) x = times_new E b.key b.listed x + begun E bs x

-- how many nodes operations may put into the cell of a position
abbrev pub entered : List Op → Position → ℕ
entered [] p = 0
entered (o ∷ ops) p = (if enters p (place_of_op o) then 1 else 0) + entered ops p
