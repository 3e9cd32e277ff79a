use Rattle.std.proofs.Common.{refl, rules}
use Rattle.osm_base.specs.declared.keys.Kind.TheVariants.{Node}
use Rattle.osm_element.specs.Elements.{key}
use Rattle.changeset_core.proofs.WidenBy.{widen_by-more}
use Rattle.changeset_core.proofs.touched.with_nodes.Goals as goal

pub loop-id-preserved : goal.loop-id-preserved
loop-id-preserved g c = widen_by-more (g.P.Places.elements c.args.places.now) c.args.area _ _ (key Node) c.args.nodes.now c.loop-id.id-index 0 _ (search rules) refl c.loop-id.invariant c.with_element-area.ensures
