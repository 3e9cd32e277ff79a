use Rattle.std.proofs.Common.{◌+◌, ◌∙◌, add-one, arith}
use Rattle.plain_model.proofs.Works.{at_same, works_more, works-all}
use Rattle.plain_model.proofs.uploads.works.Goals as goal

pub loop-place-preserved : goal.loop-place-preserved
loop-place-preserved c =
    works_more
    c.loop-place.place
    (c.loop-place.place + 1)
    c.args.keys.now
    c.args.done.now
    _
    _
    c.loop-place.made.items
    c.add_work.new.made.items
    (add-one c.loop-place.place)
    (omega (arith, c.loop-place-test.true, c.min-place-end.ensures))
    (omega (arith, c.loop-place-test.true, c.min-place-end.ensures))
    (at_same c.args.keys.now c.loop-place.place _ _ (omega (arith, c.loop-place-test.true, c.min-place-end.ensures)))
    (at_same c.args.done.now c.loop-place.place _ _ (omega (arith, c.loop-place-test.true, c.min-place-end.ensures)))
    c.loop-place.invariant
    c.in_ok-add_work.ensures

pub returns : goal.returns
returns c = c.loop-place.invariant ∙ works-all c.loop-place.place c.args.keys.now c.args.done.now (omega (arith, c.loop-place-test.false, c.min-place-end.ensures))
