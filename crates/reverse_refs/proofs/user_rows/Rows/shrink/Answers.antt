use Rattle.std.proofs.Common.{◌∙◌, sym, ap, slice_set}
use Rattle.reverse_refs.proofs.RowSteps.{at_row, same_row, sound_after, view_after, list_at, freed}
use Rattle.reverse_refs.proofs.user_rows.Rows.shrink.Goals as goal

pub invariant_of-self : goal.invariant_of-self
invariant_of-self c =
    let here = at_row c.self.invariant c.self.view_is c.item_mut.ensures.value in
    let listed = sym here.held ∙ sym c.held_in.ensures ∙ c.in-Listed.is in
    let change = freed here c.in-Listed.at listed c.in-Some.less c.give_back.new.slots c.give_back.ensures c.in-Some.ensures.0 in
    sound_after here change

pub returns-in-Some : goal.returns-in-Some
returns-in-Some c =
    let here = at_row c.self.invariant c.self.view_is c.item_mut.ensures.value in
    let listed = sym here.held ∙ sym c.held_in.ensures ∙ c.in-Listed.is in
    let change = freed here c.in-Listed.at listed c.in-Some.less c.give_back.new.slots c.give_back.ensures c.in-Some.ensures.0 in
    view_after here change
    ∙ ap (slice_set c.args.self.now c.args.place) (c.in-Some.ensures.1 c.give_back.new.slots c.self.inside.wide.keys ∙ c.list_in.ensures ∙ list_at here c.in-Listed.at listed)
    ∙ same_row here
