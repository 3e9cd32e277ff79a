use Rattle.std.proofs.Common.{ℕ, ◌++◌, take, ap, sym, ◌∙◌, append-nil}
use Rattle.std.specs.Prelude.{Option, option_and_then, slice_get}
use Rattle.std.proofs.lemmas.Option.{slice_get_past}
use Rattle.osm_element.specs.Elements.{refs_in}
use Rattle.osm_element.specs.declared.contents.Content.{Content}
use Rattle.osm_change.specs.declared.operations.Op.{Op}
use Rattle.osm_world.specs.Beds.{content_of_op}
use Rattle.upload_check.specs.Overlay.{Sight, content_by}
use Rattle.upload_check.proofs.sights.View.add_listed.Goals as goal

pub returns-in-None-get : goal.returns-in-None-get
returns-in-None-get c =
    let s : Sight = c.args.self.now in
    let place = c.in-FromOperation.place in
    let none =
    ap (λ (x : Sight). slice_get x.operations place) (sym c.self.view_is)
    ∙ slice_get_past c.self.inside.operations.now place c.in-None-get.ensures.lookup.3
    in
    sym (append-nil c.args.listed.now.items)
    ∙ ap (λ (x : Option (Content ℕ)). c.args.listed.now.items ++ refs_in x)
    (sym (ap (content_by s c.args.user) (sym c.requires ∙ c.in-FromOperation.is) ∙ ap (λ (o : Option Op). option_and_then (content_of_op (take place s.over.keys)) o) none))
