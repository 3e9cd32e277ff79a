use Rattle.std.proofs.Common.{◌≡◌, ◌++◌, map, drop}
use Rattle.osm_base.specs.declared.keys.Kind.TheVariants as kind
use Rattle.osm_element.specs.Elements.{key}
use Rattle.upload_check.proofs.references.add_node_ids.Given as goal

abbrev pub invariant-loop-id : goal.invariant-loop-id
invariant-loop-id l = l.fn.listed.items ++ map (key kind.Node) l.nodes ≡ l.listed.items ++ map (key kind.Node) (drop l.id-index l.nodes)
