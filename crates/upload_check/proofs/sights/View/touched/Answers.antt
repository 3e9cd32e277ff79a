use Rattle.std.proofs.Common.{ap, ◌∙◌}
use Rattle.std.specs.Prelude.{Option, option_to_list}
use Rattle.osm_base.specs.Place.{Position}
use Rattle.changeset_core.specs.Changeset.{widen_all}
use Rattle.upload_check.specs.Overlay.{position_now}
use Rattle.upload_check.proofs.Touched.{touched_is}
use Rattle.upload_check.proofs.sights.View.touched.Goals as goal

pub returns : goal.returns
returns c =
    touched_is (position_now c.args.self.now) c.args.key c.args.begun.now c.args.ended.now _ _ _ _
    c.with_ended-area.ensures
    (c.with_place-area.ensures ∙ ap (λ (o : Option Position). widen_all c.with_ended-area.result (option_to_list o)) c.place_before.ensures)
    (c.with_place.ensures ∙ ap (λ (o : Option Position). widen_all c.with_place-area.result (option_to_list o)) (c.place_given.ensures c.args.self.now.over.keys))
