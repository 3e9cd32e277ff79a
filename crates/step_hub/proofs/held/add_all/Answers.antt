use Rattle.std.proofs.Common.{◌++◌, ◌∷◌, [], take, sym, ap, ◌∙◌, rules}
use Rattle.std.proofs.lemmas.List.{take_more}
use Rattle.std.proofs.lemmas.Option.{get_or_from_slice_get, slice_get_within}
use Rattle.step_hub.proofs.held.add_all.Goals as goal

pub loop-place-preserved : goal.loop-place-preserved
loop-place-preserved g c =
    let entries = g.S.Stepped.list c.args.value.now in
    let i = c.loop-place.place in
    let entry = c.in_ok-entry.entry in
    let there = c.in_ok-entry.ensures in
    c.add.ensures.added (search rules)
    ∙ ap (λ l. l ++ entry ∷ []) c.loop-place.invariant
    ∙ sym (take_more entries i entry (slice_get_within entries i entry there) ∙ ap (λ e. take i entries ++ e ∷ []) (get_or_from_slice_get entries i entry entry there))
