use Rattle.std.proofs.Common.{◌≡◌}
use Rattle.std.specs.Vec.Iter.{into_iter_items}
use Rattle.placeholder_map.specs.Placeholders.{look_of}
use Rattle.osm_change.specs.Outcome.{each}
use Rattle.osm_change.specs.Build.{member_named}
use Rattle.osm_change.proofs.Each.{after}
use Rattle.osm_change.proofs.build.members_named.Given as goal

abbrev pub invariant-loop-member : goal.invariant-loop-member
invariant-loop-member l =
    (goal.iterator-loop-member).can_next l.member-iterator
    × (goal.iterator-loop-member).is_finite l.member-iterator
    × (each (member_named (look_of l.placeholders)) l.fn.members.items ≡ after l.named.items (each (member_named (look_of l.placeholders)) (into_iter_items l.member-iterator)))
