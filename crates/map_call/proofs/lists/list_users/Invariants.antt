use Rattle.std.proofs.Common.{◌≡◌, ◌||◌, ℕ, take}
use Rattle.std.specs.List.{list_any}
use Rattle.osm_base.specs.Key.{lists_key}
use Rattle.osm_base.specs.declared.keys.Kind.TheVariants.{Node, Way, Relation}
use Rattle.osm_element.specs.Elements.{key, users}
use Rattle.osm_world.specs.World.{state_of}
use Rattle.rising_lists.specs.Ids.{lists_id}
use Rattle.map_call.proofs.lists.list_users.Given as goal

abbrev pub invariant-loop-id : goal.invariant-loop-id
invariant-loop-id l = record {
  ways : (id : ℕ) → lists_id l.found.ways.items id ≡ lists_id l.fn.found.ways.items id || list_any (λ n. lists_key (users (state_of l.world).elements (key Node n)) (key Way id)) (take l.id-index l.nodes);
  relations : (id : ℕ) → lists_id l.found.relations.items id ≡ lists_id l.fn.found.relations.items id || list_any (λ n. lists_key (users (state_of l.world).elements (key Node n)) (key Relation id)) (take l.id-index l.nodes);
}
