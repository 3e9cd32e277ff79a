-- How a client names the elements of its upload.
use Rattle.std.specs.Prelude.{◌^◌, ◌<◌, List, slice_get, Option, Some, None, MatchOption, IsSome, ℤ, pos}
use Rattle.osm_change.specs.Change.{created_kind}
use Rattle.osm_change.specs.declared.operations.Name.{Name}
use Rattle.osm_change.specs.declared.operations.Referent.TheVariants.{Old, New}
use Rattle.osm_change.specs.declared.operations.Op.{Op}
use Rattle.osm_change.specs.declared.operations.Op.TheVariants.{Create, Modify, Delete}

-- the placeholder of a create
abbrev pub placeholder_in : Option Op → ℤ
placeholder_in None = pos 0
placeholder_in (Some (Create placeholder content tags)) = placeholder
placeholder_in (Some (Modify name version content tags)) = pos 0
placeholder_in (Some (Delete kind name version if_unused)) = pos 0

-- the id of an element of before, the placeholder of a created one
abbrev pub said : List Op → Name → ℤ
said ops (Old id) = pos id
said ops (New place) = placeholder_in (slice_get ops place)

-- an id of 63 bits, or the place of a create
abbrev pub IsSaid : List Op → Name → Type 0
IsSaid ops (Old id) = id < 2 ^ 63
IsSaid ops (New place) = MatchOption (slice_get ops place) ⊥ (λ o. IsSome (created_kind o))
