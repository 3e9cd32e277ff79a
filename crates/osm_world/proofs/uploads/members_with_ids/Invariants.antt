use Rattle.std.proofs.Common.{◌≡◌, ◌≤◌, ◌++◌, length, map}
use Rattle.std.specs.Vec.Iter.{into_iter_items}
use Rattle.osm_model.specs.Names.{member_with_id}
use Rattle.osm_world.proofs.uploads.members_with_ids.Given as goal

abbrev pub invariant-loop-member : goal.invariant-loop-member
invariant-loop-member l = record {
  next : (goal.iterator-loop-member).can_next l.member-iterator;
  finite : (goal.iterator-loop-member).is_finite l.member-iterator;
  made : l.made.items ++ map (member_with_id l.keys) (into_iter_items l.member-iterator) ≡ map (member_with_id l.fn.keys) l.fn.members;
  room : length (into_iter_items l.member-iterator) ≤ l.made.free;
}
