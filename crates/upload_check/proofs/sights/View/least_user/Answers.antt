use Rattle.std.proofs.Common.{List, Option, ap, ◌∙◌}
use Rattle.std.specs.Prelude.{filter, slice_get}
use Rattle.osm_base.specs.declared.keys.Key.{Key}
use Rattle.osm_element.specs.Elements.{users}
use Rattle.upload_check.specs.Checks.{least_where}
use Rattle.upload_check.specs.Overlay.{Sight, uses}
use Rattle.upload_check.specs.Users.{least}
use Rattle.upload_check.proofs.sights.View.least_user.Goals as goal

pub returns : goal.returns
returns c =
    let s : Sight = c.args.self.now in
    let same = c.self.view_is in
    c.least_key.ensures
    ∙ ap (λ (x : Option Key). least x c.least_of.result)
    (c.first_of-first.ensures ∙ ap (λ (ks : List Key). slice_get (filter (λ a. uses s a c.args.used) ks) 0) (c.items.ensures.keys ∙ c.users-users.ensures ∙ ap (λ (x : Sight). users x.before c.args.used) same))
    ∙ ap (λ (x : Option Key). least (slice_get (filter (λ a. uses s a c.args.used) (users s.before c.args.used)) 0) x)
    (c.least_of.ensures ∙ ap (least_where (λ a. uses s a c.args.used)) (c.keys.ensures ∙ ap (λ (x : Sight). x.over.keys) same))
