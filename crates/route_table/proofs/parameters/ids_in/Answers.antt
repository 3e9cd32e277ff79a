use Rattle.std.proofs.Common.{ℕ, List, sym, ap, ◌∙◌}
use Rattle.route_table.proofs.ParameterLemmas.{behind_ids, ids_step, ids_stop, ids_last, ids_end}
use Rattle.route_table.proofs.parameters.ids_in.Goals as goal

pub returns-in_default-path_number : goal.returns-in_default-path_number
returns-in_default-path_number c =
    sym (c.loop-part.invariant
    ∙ ids_stop c.loop-part.ids.items c.loop-part.rest.now c.in-Some.part.now c.in-Some.behind.now
    (sym c.in-Some.ensures) (sym c.in_default-path_number.ensures))

pub loop-part-preserved : goal.loop-part-preserved
loop-part-preserved c =
    c.loop-part.invariant
    ∙ ids_step c.loop-part.ids.items c.loop-part.rest.now c.in-Some.part.now c.in-Some.behind.now c.in-Some-path_number.id
    (sym c.in-Some.ensures) (sym c.in-Some-path_number.ensures)
    ∙ ap (λ (ids : List ℕ). behind_ids ids c.in-Some.behind.now) (sym c.in_ok-push.ensures.items)

pub returns-in_default-path_number-2 : goal.returns-in_default-path_number-2
returns-in_default-path_number-2 c =
    sym (c.loop-part.invariant
    ∙ ids_end c.loop-part.ids.items c.loop-part.rest.now (sym c.in_default.ensures) (sym c.in_default-path_number-2.ensures))

pub returns : goal.returns
returns c =
    let last = ids_last c.loop-part.ids.items c.loop-part.rest.now c.in-Some-path_number-2.id
    (sym c.in_default.ensures) (sym c.in-Some-path_number-2.ensures) in
    rw (c.of.ensures, c.in_ok-push-2.ensures.items) (sym (c.loop-part.invariant ∙ last))
