use Rattle.std.proofs.Common.{◌≡◌, ◌<◌, ◌∙◌, ap, subst, length, rules, Some, arith, refl}
use Rattle.std.specs.Prelude.{slice_get, option_map}
use Rattle.std.proofs.lemmas.List.{length-map}
use Rattle.std.proofs.lemmas.Option.{slice_get-map, slice_get_read}
use Rattle.hub_core.proofs.Stages.{if_copied}
use Rattle.hub_core.proofs.entries.Entries.entry.Goals as goal

pub offset_bounds-kept-place : goal.offset_bounds-kept-place
offset_bounds-kept-place g c =
    let within : c.args.place < length c.self.inside.kept.now = omega (arith, length-map c.self.inside.kept.now g.M.Machine.entry_of, ap length c.self.view_is) in
    search rules

pub returns : goal.returns
returns g c =
    let entry_of = g.M.Machine.entry_of in
    let kept = c.self.inside.kept.now in
    let within : c.args.place < length kept = omega (arith, length-map kept entry_of, ap length c.self.view_is) in
    let there = slice_get-map entry_of kept c.args.place ∙ ap (option_map entry_of) (slice_get_read kept (length kept) c.args.place c.index-kept-place.result refl within c.index-kept-place.is) in
    if_copied (λ e. slice_get c.args.self.now c.args.place ≡ Some e) c.entry.result (entry_of c.index-kept-place.result)
    (subst (λ xs. slice_get xs c.args.place ≡ Some (entry_of c.index-kept-place.result)) c.self.view_is there) c.entry.ensures
