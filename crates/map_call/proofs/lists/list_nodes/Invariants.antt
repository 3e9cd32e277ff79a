use Rattle.std.proofs.Common.{◌≡◌, ◌||◌, ℕ, take}
use Rattle.std.specs.List.{list_any}
use Rattle.osm_base.specs.declared.keys.Kind.TheVariants.{Node, Way}
use Rattle.osm_element.specs.Elements.{key}
use Rattle.osm_model.specs.Selection.{lists}
use Rattle.rising_lists.specs.Ids.{lists_id}
use Rattle.map_call.proofs.lists.list_nodes.Given as goal

abbrev pub invariant-loop-id : goal.invariant-loop-id
invariant-loop-id l = (id : ℕ) → lists_id l.ids.items id ≡ lists_id l.fn.ids.items id || list_any (λ w. lists l.store.elements (key Way w) (key Node id)) (take l.id-index l.ways)
