use Rattle.std.proofs.Common.{◌∙◌, ap}
use Rattle.std.specs.Prelude.{filter}
use Rattle.std.proofs.lemmas.List.{take_all}
use Rattle.notes_core.specs.Search.{is_shown}
use Rattle.notes_core.specs.World.{state_of}
use Rattle.notes_core.proofs.Near.{within-near}
use Rattle.notes_core.proofs.search.notes_within.Goals as goal

pub returns : goal.returns
returns c =
    c.loop-id.invariant
    ∙ ap (filter (is_shown (state_of c.args.world.now) c.args.within.now c.args.closed))
    (take_all c.loop-id.id-index c.deref-id-items.result.now c.loop-id-test.false ∙ c.deref-id-items.ensures.value ∙ c.in_ok-near.ensures)
    ∙ within-near c.boxes_touch_what_they_hold.ensures (state_of c.args.world.now) c.args.within.now c.args.closed c.requires
