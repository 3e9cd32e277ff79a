use Rattle.std.proofs.Common.{◌≡◌, ◌||◌, ℕ, take}
use Rattle.std.specs.List.{list_any}
use Rattle.osm_base.specs.Key.{key_eq}
use Rattle.osm_base.specs.declared.keys.Kind.TheVariants.{Node}
use Rattle.osm_element.specs.Elements.{key, key_of_member}
use Rattle.rising_lists.specs.Ids.{lists_id}
use Rattle.map_call.proofs.lists.list_members.Given as goal

abbrev pub invariant-loop-member : goal.invariant-loop-member
invariant-loop-member l = (id : ℕ) → lists_id l.ids.items id ≡ lists_id l.fn.ids.items id || list_any (λ m. key_eq (key_of_member m) (key Node id)) (take l.member-index l.members)
