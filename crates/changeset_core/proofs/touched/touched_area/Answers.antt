use Rattle.std.proofs.Common.{Some, ap, sym, ◌∙◌}
use Rattle.osm_element.specs.Held.{held_content}
use Rattle.changeset_core.proofs.WidenBy.{touched_area-None, touched_area-Some}
use Rattle.changeset_core.proofs.touched.touched_area.Goals as goal

pub returns-in-Some : goal.returns-in-Some
returns-in-Some g c = touched_area-Some (g.P.Places.elements c.args.places.now) c.args.key c.args.new.now (held_content c.held.result) _ _ (c.in-Some.is ∙ ap Some (sym c.held.ensures)) c.old_area-area.ensures c.with_content.ensures

pub returns-in-None : goal.returns-in-None
returns-in-None g c = touched_area-None (g.P.Places.elements c.args.places.now) c.args.key c.args.new.now _ c.in-None.is c.old_area-area.ensures
