use Rattle.std.proofs.Common.{sym, ap, ◌∙◌}
use Rattle.std.specs.Prelude.{Option, option_to_list}
use Rattle.osm_base.specs.Place.{Position}
use Rattle.changeset_core.specs.Changeset.{widen_all}
use Rattle.upload_check.proofs.Passed.{seen_visible, seen_position, unseen}
use Rattle.upload_check.proofs.sights.View.with_named.Goals as goal

pub returns-in-Some : goal.returns-in-Some
returns-in-Some c =
    let seen = sym c.place_named.ensures ∙ c.in-Some.is in
    record {
      visible = seen_visible c.args.self.now c.args.named c.in-Some.place seen;
      area = c.with_place.ensures ∙ ap (λ (o : Option Position). widen_all c.args.area (option_to_list o)) (sym (seen_position c.args.self.now c.args.named c.in-Some.place seen));
    }

pub returns-in-None : goal.returns-in-None
returns-in-None c = unseen c.args.self.now c.args.named (sym c.place_named.ensures ∙ c.in-None.is)
