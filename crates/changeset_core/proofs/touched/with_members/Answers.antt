use Rattle.std.proofs.Common.{ap, ◌∙◌, rules}
use Rattle.osm_element.specs.Elements.{key_of_member}
use Rattle.changeset_core.proofs.WidenBy.{widen_by-more}
use Rattle.changeset_core.proofs.touched.with_members.Goals as goal

pub loop-member-preserved : goal.loop-member-preserved
loop-member-preserved g c = widen_by-more (g.P.Places.elements c.args.places.now) c.args.area _ _ key_of_member c.args.members.now c.loop-member.member-index c.member-item.result _ (search rules) (c.key.ensures ∙ ap key_of_member c.member-item.is) c.loop-member.invariant c.with_element-area.ensures
