use Rattle.std.proofs.Common.{◌≡◌, ◌&&◌, ◌||◌, ℕ, take}
use Rattle.std.specs.Prelude.{not}
use Rattle.std.specs.List.{list_any}
use Rattle.osm_base.specs.Key.{lists_key}
use Rattle.osm_base.specs.declared.keys.Kind.TheVariants.{Node, Relation}
use Rattle.osm_element.specs.Elements.{key, users}
use Rattle.osm_world.specs.World.{state_of}
use Rattle.rising_lists.specs.Ids.{lists_id}
use Rattle.map_call.proofs.lists.list_users_of_new.Given as goal

abbrev pub invariant-loop-id : goal.invariant-loop-id
invariant-loop-id l = (r : ℕ) → lists_id l.ids.items r ≡ lists_id l.fn.ids.items r || list_any (λ n. not (lists_id l.known n) && lists_key (users (state_of l.world).elements (key Node n)) (key Relation r)) (take l.id-index l.nodes)
