use Rattle.osm_world.proofs.Applied.{empty_sound}
use Rattle.osm_world.proofs.worlds.World.empty.Goals as goal

pub invariant_of-result : goal.invariant_of-result
invariant_of-result c =
    empty_sound c.new-map.result c.none.result c.new.result c.new-map.ensures.elements c.none.ensures c.new.ensures
    c.points_are_consistent.ensures c.moments_are_bounded.ensures c.versions_are_attributed.ensures c.versions_are_stamped_in_order.ensures
