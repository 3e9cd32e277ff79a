use Rattle.std.proofs.Common.{◌≡◌, ◌||◌, ℕ, take}
use Rattle.osm_base.specs.Key.{lists_key}
use Rattle.osm_base.specs.declared.keys.Kind.TheVariants.{Way, Relation}
use Rattle.osm_element.specs.Elements.{key}
use Rattle.rising_lists.specs.Ids.{lists_id}
use Rattle.map_call.proofs.lists.list_both.Given as goal

abbrev pub invariant-loop-listed : goal.invariant-loop-listed
invariant-loop-listed l = record {
  ways : (id : ℕ) → lists_id l.users.ways.items id ≡ lists_id l.fn.users.ways.items id || lists_key (take l.listed-index l.keys) (key Way id);
  relations : (id : ℕ) → lists_id l.users.relations.items id ≡ lists_id l.fn.users.relations.items id || lists_key (take l.listed-index l.keys) (key Relation id);
}
