-- The elements of an upload's operations, by the ids that its creates get.
use Rattle.std.specs.Prelude.{ℕ, ◌+◌, List, [], ◌∷◌, ◌++◌, slice_get}
use Rattle.std.specs.Option.{option_map_or}
use Rattle.osm_base.specs.declared.keys.Kind.{Kind}
use Rattle.osm_base.specs.declared.keys.Kind.TheVariants as kind
use Rattle.osm_base.specs.declared.keys.Key.{Key}
use Rattle.osm_element.specs.Elements.{key}
use Rattle.osm_change.specs.Change.{kind_of}
use Rattle.osm_change.specs.declared.operations.FirstIds.{FirstIds}
use Rattle.osm_change.specs.declared.operations.Name.{Name}
use Rattle.osm_change.specs.declared.operations.Referent.TheVariants.{Old, New}
use Rattle.osm_change.specs.declared.operations.Op.{Op}
use Rattle.osm_change.specs.declared.operations.Op.TheVariants.{Create, Modify, Delete}

-- the id that the next element of a kind gets
abbrev pub next_of : FirstIds → Kind → ℕ
next_of next kind.Node = next.node
next_of next kind.Way = next.way
next_of next kind.Relation = next.relation

abbrev pub one_more : FirstIds → Kind → FirstIds
one_more next kind.Node = record next { node = next.node + 1 }
one_more next kind.Way = record next { way = next.way + 1 }
one_more next kind.Relation = record next { relation = next.relation + 1 }

-- a create takes the next id of its kind
abbrev pub ids_after : FirstIds → Op → FirstIds
ids_after next (Create placeholder content tags) = one_more next (kind_of content)
ids_after next (Modify name version content tags) = next
ids_after next (Delete kind name version if_unused) = next

-- the id that a name stands for, by the keys of the operations before
abbrev pub id_of : List Key → Name → ℕ
id_of ks (Old id) = id
id_of ks (New place) = option_map_or (λ k. k.id) (slice_get ks place) 0

-- the element of an operation, by the keys of those before it and the ids that come next
abbrev pub key_of : List Key → FirstIds → Op → Key
key_of ks next (Create placeholder content tags) = key (kind_of content) (next_of next (kind_of content))
key_of ks next (Modify name version content tags) = key (kind_of content) (id_of ks name)
key_of ks next (Delete kind name version if_unused) = key kind (id_of ks name)

-- the keys so far, and those of further operations
abbrev pub keys_after : List Key → FirstIds → List Op → List Key
keys_after ks next [] = ks
keys_after ks next (o ∷ ops) = keys_after (ks ++ key_of ks next o ∷ []) (ids_after next o) ops

-- the elements of the operations, one for each
abbrev pub keys_of : FirstIds → List Op → List Key
keys_of first ops = keys_after [] first ops
