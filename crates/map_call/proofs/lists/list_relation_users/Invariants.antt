use Rattle.std.proofs.Common.{◌≡◌, ◌||◌, ℕ, take}
use Rattle.std.specs.List.{list_any}
use Rattle.osm_base.specs.Key.{lists_key}
use Rattle.osm_base.specs.declared.keys.Kind.TheVariants.{Relation}
use Rattle.osm_element.specs.Elements.{key, users}
use Rattle.osm_world.specs.World.{state_of}
use Rattle.rising_lists.specs.Ids.{lists_id}
use Rattle.map_call.proofs.lists.list_relation_users.Given as goal

abbrev pub invariant-loop-id : goal.invariant-loop-id
invariant-loop-id l = (id : ℕ) → lists_id l.ids.items id ≡ lists_id l.fn.ids.items id || list_any (λ u. lists_key (users (state_of l.world).elements (key l.kind u)) (key Relation id)) (take l.id-index l.used)
