use Rattle.std.proofs.Common.{◌≡◌, None, map, drop}
use Rattle.std.specs.Prelude.{find, filter_map}
use Rattle.osm_base.specs.declared.keys.Kind.TheVariants as kind
use Rattle.osm_change.specs.Change.{named}
use Rattle.changeset_core.specs.Changeset.{widen_all}
use Rattle.upload_check.specs.Checks.{is_missing}
use Rattle.upload_check.specs.Passed.{position_named}
use Rattle.upload_check.proofs.sights.View.nodes_seen.Given as goal

abbrev pub invariant-loop-name : goal.invariant-loop-name
invariant-loop-name l = record {
  visible : find (is_missing l.self) (map (named kind.Node) l.nodes) ≡ find (is_missing l.self) (map (named kind.Node) (drop l.name-index l.nodes));
  area : widen_all None (filter_map (position_named l.self) (map (named kind.Node) l.nodes))
      ≡ widen_all l.area (filter_map (position_named l.self) (map (named kind.Node) (drop l.name-index l.nodes)));
}
