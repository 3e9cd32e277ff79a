use Rattle.std.proofs.Common.{Some, None, ap, sym, ◌∙◌}
use Rattle.std.specs.Prelude.{option_map}
use Rattle.osm_element.specs.Held.{held_content}
use Rattle.changeset_core.proofs.WidenBy.{old_area-is}
use Rattle.changeset_core.proofs.touched.old_area.Goals as goal

pub returns-in-Some : goal.returns-in-Some
returns-in-Some g c = c.with_content.ensures ∙ old_area-is (g.P.Places.elements c.args.places.now) c.args.key (Some (held_content c.in-Some.content)) (ap (option_map held_content) (sym c.in-Some.is) ∙ c.content_of.ensures)

pub returns-in-None : goal.returns-in-None
returns-in-None g c = old_area-is (g.P.Places.elements c.args.places.now) c.args.key None (ap (option_map held_content) (sym c.in-None.is) ∙ c.content_of.ensures)
