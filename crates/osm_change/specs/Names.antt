-- Elements of an upload as a refusal names them: by id, or by the placeholder of an earlier creation
-- (wiki, "OsmChange").
use Rattle.std.specs.Prelude.{List, position, slice_get}
use Rattle.std.specs.Option.{option_map_or}
use Rattle.osm_base.specs.Key.{key_eq}
use Rattle.osm_base.specs.declared.keys.Key.{Key}
use Rattle.osm_change.specs.Said.{placeholder_in}
use Rattle.osm_change.specs.declared.operations.Name.{Name}
use Rattle.osm_change.specs.declared.operations.Referent.TheVariants.{Old, New}
use Rattle.osm_change.specs.declared.operations.Op.{Op}
use Rattle.osm_change.specs.declared.refusals.Said.{Said}
use Rattle.osm_change.specs.declared.refusals.Said.TheVariants.{Id, Placeholder}

-- an element as the client named it
abbrev pub said : List Op → Name → Said
said ops (Old id) = Id id
said ops (New place) = Placeholder (placeholder_in (slice_get ops place))

-- an element of this upload, by the placeholder of the first operation that it is of, which creates it
abbrev pub said_made : List Op → List Key → Key → Said
said_made ops ks k = option_map_or (λ place. Placeholder (placeholder_in (slice_get ops place))) (position (λ x. key_eq x k) ks) (Id k.id)
