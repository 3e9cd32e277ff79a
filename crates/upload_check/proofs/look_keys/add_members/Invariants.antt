use Rattle.std.proofs.Common.{◌≡◌, ◌++◌, map, drop}
use Rattle.osm_change.specs.Change.{named_member}
use Rattle.osm_later.specs.Looked.{old_keys}
use Rattle.upload_check.proofs.look_keys.add_members.Given as goal

abbrev pub invariant-loop-member : goal.invariant-loop-member
invariant-loop-member l = l.fn.listed.items ++ old_keys (map named_member l.members) ≡ l.listed.items ++ old_keys (map named_member (drop l.member-index l.members))
