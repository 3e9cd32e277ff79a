use Rattle.std.proofs.Common.{◌≡◌, map, take}
use Rattle.osm_model.specs.Names.{member_with_id}
use Rattle.plain_model.proofs.names.members_with_ids.Given as goal

abbrev pub invariant-loop-member : goal.invariant-loop-member
invariant-loop-member l = l.made.items ≡ map (member_with_id l.keys) (take l.member-index l.members)
