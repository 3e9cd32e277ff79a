use Rattle.std.proofs.Common.{◌≡◌, None, map, drop}
use Rattle.std.specs.Prelude.{find, filter_map}
use Rattle.osm_change.specs.Change.{named_member}
use Rattle.changeset_core.specs.Changeset.{widen_all}
use Rattle.upload_check.specs.Checks.{is_missing}
use Rattle.upload_check.specs.Passed.{position_named}
use Rattle.upload_check.proofs.sights.View.members_seen.Given as goal

abbrev pub invariant-loop-member : goal.invariant-loop-member
invariant-loop-member l = record {
  visible : find (is_missing l.self) (map named_member l.members) ≡ find (is_missing l.self) (map named_member (drop l.member-index l.members));
  area : widen_all None (filter_map (position_named l.self) (map named_member l.members))
      ≡ widen_all l.area (filter_map (position_named l.self) (map named_member (drop l.member-index l.members)));
}
