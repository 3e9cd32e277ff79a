use Rattle.std.proofs.Common.{◌≡◌, take}
use Rattle.std.specs.Prelude.{map}
use Rattle.osm_base.specs.declared.keys.Kind.TheVariants.{Node}
use Rattle.osm_element.specs.Elements.{key}
use Rattle.changeset_core.specs.Changeset.{widen_by}
use Rattle.changeset_core.proofs.touched.with_nodes.Given as goal

abbrev pub invariant-loop-id : goal.invariant-loop-id
invariant-loop-id g l = l.area ≡ widen_by (g.P.Places.elements l.places) l.initial.area (map (key Node) (take l.id-index l.nodes))
