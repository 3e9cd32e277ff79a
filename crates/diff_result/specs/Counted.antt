-- The ids of an upload's creates, counted: those of a kind get the ids from its first one on, in order.
use Rattle.std.specs.Prelude.{ℕ, ◌+◌, ◌^◌, ◌<◌, Bool, false, List, [], ◌∷◌, take, count_by, Option, Some, None}
use Rattle.osm_base.specs.Key.{kind_eq}
use Rattle.osm_base.specs.declared.keys.Kind.{Kind}
use Rattle.osm_base.specs.declared.keys.Key.{Key}
use Rattle.osm_element.specs.Elements.{key}
use Rattle.osm_change.specs.Change.{kind_of, created_kind}
use Rattle.osm_change.specs.Keys.{next_of}
use Rattle.osm_change.specs.declared.operations.FirstIds.{FirstIds}
use Rattle.osm_change.specs.declared.operations.Name.{Name}
use Rattle.osm_change.specs.declared.operations.Referent.TheVariants.{Old, New}
use Rattle.osm_change.specs.declared.operations.Op.{Op}
use Rattle.osm_change.specs.declared.operations.Op.TheVariants.{Create, Modify, Delete}

-- enough numbers are left for so many creates
pub record HasNumbers (first : FirstIds) (creates : ℕ) : Type 0 where
  pub node : first.node + creates < 2 ^ 64
  pub way : first.way + creates < 2 ^ 64
  pub relation : first.relation + creates < 2 ^ 64

abbrev pub is_kind : Kind → Option Kind → Bool
is_kind kind None = false
is_kind kind (Some created) = kind_eq created kind

abbrev pub creates_kind : Kind → Op → Bool
creates_kind kind o = is_kind kind (created_kind o)

-- the id that the operation at a place would give to an element of a kind
abbrev pub counted_id : FirstIds → List Op → Kind → ℕ → ℕ
counted_id first ops kind place = next_of first kind + count_by (creates_kind kind) (take place ops)

abbrev pub id_named : FirstIds → List Op → Kind → Name → ℕ
id_named first ops kind (Old id) = id
id_named first ops kind (New place) = counted_id first ops kind place

-- the element of the operation at a place
abbrev pub counted_key : FirstIds → List Op → ℕ → Op → Key
counted_key first ops place (Create placeholder content tags) = key (kind_of content) (counted_id first ops (kind_of content) place)
counted_key first ops place (Modify name version content tags) = key (kind_of content) (id_named first ops (kind_of content) name)
counted_key first ops place (Delete kind name version if_unused) = key kind (id_named first ops kind name)

-- the elements of the operations from a place on
abbrev pub counted_from : FirstIds → List Op → ℕ → List Op → List Key
counted_from first ops place [] = []
counted_from first ops place (o ∷ rest) = counted_key first ops place o ∷ counted_from first ops (place + 1) rest

abbrev pub counted_keys : FirstIds → List Op → List Key
counted_keys first ops = counted_from first ops 0 ops
