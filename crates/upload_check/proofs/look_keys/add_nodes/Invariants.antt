use Rattle.std.proofs.Common.{◌≡◌, ◌++◌, map, drop}
use Rattle.osm_base.specs.declared.keys.Kind.TheVariants as kind
use Rattle.osm_change.specs.Change.{named}
use Rattle.osm_later.specs.Looked.{old_keys}
use Rattle.upload_check.proofs.look_keys.add_nodes.Given as goal

abbrev pub invariant-loop-name : goal.invariant-loop-name
invariant-loop-name l = l.fn.listed.items ++ old_keys (map (named kind.Node) l.nodes) ≡ l.listed.items ++ old_keys (map (named kind.Node) (drop l.name-index l.nodes))
