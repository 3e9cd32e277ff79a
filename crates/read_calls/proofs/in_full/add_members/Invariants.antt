use Rattle.std.proofs.Common.{◌≡◌, ◌++◌, map, take}
use Rattle.osm_element.specs.Elements.{key_of_member}
use Rattle.read_calls.proofs.in_full.add_members.Given as goal

abbrev pub invariant-loop-member : goal.invariant-loop-member
invariant-loop-member l = l.found.items ≡ l.fn.found.items ++ map key_of_member (take l.member-index l.members)
