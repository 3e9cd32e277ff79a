use Rattle.std.proofs.Common.{◌≡◌, ◌++◌, map, drop}
use Rattle.osm_base.specs.declared.keys.Kind.TheVariants as kind
use Rattle.osm_element.specs.Elements.{key}
use Rattle.osm_change.specs.Keys.{id_of}
use Rattle.upload_check.proofs.references.add_nodes.Given as goal

abbrev pub invariant-loop-name : goal.invariant-loop-name
invariant-loop-name l =
    l.fn.listed.items ++ map (λ x. key kind.Node (id_of l.keys x)) l.nodes
    ≡ l.listed.items ++ map (λ x. key kind.Node (id_of l.keys x)) (drop l.name-index l.nodes)
