use Rattle.std.proofs.Common.{◌≡◌, ◌++◌, map, drop}
use Rattle.osm_element.specs.Elements.{key_of_member}
use Rattle.upload_check.proofs.references.add_member_ids.Given as goal

abbrev pub invariant-loop-member : goal.invariant-loop-member
invariant-loop-member l = l.fn.listed.items ++ map key_of_member l.members ≡ l.listed.items ++ map key_of_member (drop l.member-index l.members)
