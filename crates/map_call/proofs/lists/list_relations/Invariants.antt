use Rattle.std.proofs.Common.{◌≡◌, ◌||◌, ℕ, take}
use Rattle.osm_base.specs.Key.{lists_key}
use Rattle.osm_base.specs.declared.keys.Kind.TheVariants.{Relation}
use Rattle.osm_element.specs.Elements.{key}
use Rattle.rising_lists.specs.Ids.{lists_id}
use Rattle.map_call.proofs.lists.list_relations.Given as goal

abbrev pub invariant-loop-listed : goal.invariant-loop-listed
invariant-loop-listed l = (id : ℕ) → lists_id l.ids.items id ≡ lists_id l.fn.ids.items id || lists_key (take l.listed-index l.keys) (key Relation id)
