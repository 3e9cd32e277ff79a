use Rattle.std.specs.Prelude.{is_ok, if◌then◌else◌}
use Rattle.std.proofs.lemmas.Result.{on_err_weaker}
use Rattle.std.proofs.Common.{refl, ◌≡◌, ◌+◌, ◌∙◌, sym, ap, arith, ℕ, [], slice_set}
use Rattle.reverse_refs.specs.Users.{UserRow, row_at, with_room}
use Rattle.reverse_refs.specs.Held.{row_held}
use Rattle.reverse_refs.proofs.RowSteps.{same_keys, at_row, there, spent, wide_there, stays, waiting, on_err, if_ok, if_err, same_view, same_row, without_lists, sound_after, view_after, taken, list_there, list_is, edited, edited_view}
use Rattle.reverse_refs.proofs.user_rows.Rows.promise.Goals as goal

pub invariant_of-self : goal.invariant_of-self
invariant_of-self c =
    let here = at_row c.self.invariant c.self.view_is c.item_mut-row.ensures.value in
    stays here c.self.inside.slots c.await_one.new.self refl c.await_one.ensures.keys c.in_err-await_one-in-Nothing.ensures.err

pub returns-in_err-await_one-in-Nothing-clause-err : goal.returns-in_err-await_one-in-Nothing-clause-err
returns-in_err-await_one-in-Nothing-clause-err c =
    let here = at_row c.self.invariant c.self.view_is c.item_mut-row.ensures.value in
    on_err c.from_residual.result (same_view here c.self.inside.slots c.await_one.new.self.keys refl c.await_one.ensures.keys)

pub invariant_of-self-in-Nothing : goal.invariant_of-self-in-Nothing
invariant_of-self-in-Nothing c =
    let here = at_row c.self.invariant c.self.view_is c.item_mut-row.ensures.value in
    let more = c.in_ok-await_one-in-Nothing.ensures.ok in
    sound_after here (waiting here c.await_one.new.self c.await_one.ensures.keys (omega (arith, more)))

pub item_mut-requires : goal.item_mut-requires
item_mut-requires c = list_there (at_row c.self.invariant c.self.view_is c.item_mut-row.ensures.value) c.in-Listed.place c.in-Listed.is

pub invariant_of-self-in-Listed : goal.invariant_of-self-in-Listed
invariant_of-self-in-Listed c =
    let here = at_row c.self.invariant c.self.view_is c.item_mut-row.ensures.value in
    sound_after here (edited here c.in-Listed.place c.in-Listed.is _ c.item_mut.ensures.value refl)

pub list_apart-requires : goal.list_apart-requires
list_apart-requires c =
    let here = at_row c.self.invariant c.self.view_is c.item_mut-row.ensures.value in
    record { within = wide_there here; awaited = spent here }

pub invariant_of-self-in_err-place-in_default : goal.invariant_of-self-in_err-place-in_default
invariant_of-self-in_err-place-in_default c =
    let here = at_row c.self.invariant c.self.view_is c.item_mut-row.ensures.value in
    stays here c.list_apart.new.slots c.list_apart.new.wide c.in_err-place-in_default.ensures.err c.list_apart.ensures.keys c.in_err-place-in_default.ensures.kept

pub returns-in_err-place-in_default-clause-err : goal.returns-in_err-place-in_default-clause-err
returns-in_err-place-in_default-clause-err c =
    let here = at_row c.self.invariant c.self.view_is c.item_mut-row.ensures.value in
    on_err c.from_residual-in_err-place-in_default.result
    (same_view here c.list_apart.new.slots c.list_apart.new.wide.keys c.in_err-place-in_default.ensures.err c.list_apart.ensures.keys)

pub invariant_of-self-in_default : goal.invariant_of-self-in_default
invariant_of-self-in_default c =
    let here = at_row c.self.invariant c.self.view_is c.item_mut-row.ensures.value in
    let spent = c.in_ok-place-in_default.ensures.spent in
    sound_after here
    (taken here c.in_ok-place-in_default.place _ c.list_apart.new.slots c.list_apart.new.wide c.in_ok-place-in_default.ensures.ok (same_keys _ _ c.list_apart.ensures.keys) (omega (arith, spent)))

pub returns-in_ok-await_one-in-Nothing-clause-ok : goal.returns-in_ok-await_one-in-Nothing-clause-ok
returns-in_ok-await_one-in-Nothing-clause-ok c =
    let here = at_row c.self.invariant c.self.view_is c.item_mut-row.ensures.value in
    let more = c.in_ok-await_one-in-Nothing.ensures.ok in
    view_after here (waiting here c.await_one.new.self c.await_one.ensures.keys (omega (arith, more)))
    ∙ ap (slice_set c.args.self.now c.args.place) (ap with_room (sym (there here ∙ ap (row_held c.self.inside.slots c.self.inside.wide.keys) c.in-Nothing.is)))

pub returns-in-Listed-clause-ok : goal.returns-in-Listed-clause-ok
returns-in-Listed-clause-ok c =
    let here = at_row c.self.invariant c.self.view_is c.item_mut-row.ensures.value in
    if_ok c.promise.result _ (λ n. slice_set c.args.self.now c.args.place (record (row_at c.args.self.now c.args.place) { free = (row_at c.args.self.now c.args.place).free + n }))
    (edited_view here c.in-Listed.place c.in-Listed.is _ c.item_mut.ensures.value refl
    ∙ ap (slice_set c.args.self.now c.args.place)
    (c.promise.ensures ∙ ap (λ (r : UserRow). record r { free = r.free + (if is_ok c.promise.result then 1 else 0) }) (list_is here c.in-Listed.place c.in-Listed.is c.item_mut.ensures.value)))

pub returns-in-Listed-clause-err : goal.returns-in-Listed-clause-err
returns-in-Listed-clause-err c =
    let here = at_row c.self.invariant c.self.view_is c.item_mut-row.ensures.value in
    let same : (row_at c.args.self.now c.args.place).free + 0 ≡ (row_at c.args.self.now c.args.place).free = omega arith in
    on_err_weaker c.promise.result
    (λ kept. kept ∙ ap (λ (n : ℕ). slice_set c.args.self.now c.args.place (record (row_at c.args.self.now c.args.place) { free = n })) same ∙ same_row here)
    (if_err c.promise.result _ (λ n. slice_set c.args.self.now c.args.place (record (row_at c.args.self.now c.args.place) { free = (row_at c.args.self.now c.args.place).free + n }))
    (edited_view here c.in-Listed.place c.in-Listed.is _ c.item_mut.ensures.value refl
    ∙ ap (slice_set c.args.self.now c.args.place)
    (c.promise.ensures ∙ ap (λ (r : UserRow). record r { free = r.free + (if is_ok c.promise.result then 1 else 0) }) (list_is here c.in-Listed.place c.in-Listed.is c.item_mut.ensures.value))))

pub returns-in_ok-place-in_default-clause-ok : goal.returns-in_ok-place-in_default-clause-ok
returns-in_ok-place-in_default-clause-ok c =
    let here = at_row c.self.invariant c.self.view_is c.item_mut-row.ensures.value in
    let spent = c.in_ok-place-in_default.ensures.spent in
    view_after here
    (taken here c.in_ok-place-in_default.place _ c.list_apart.new.slots c.list_apart.new.wide c.in_ok-place-in_default.ensures.ok (same_keys _ _ c.list_apart.ensures.keys) (omega (arith, spent)))
    ∙ ap (slice_set c.args.self.now c.args.place) (c.in_ok-place-in_default.ensures.ok.holds ∙ ap with_room (without_lists here [] c.in_default.not-Listed))
