use Rattle.std.proofs.Common.{None, arith}
use Rattle.std.proofs.lemmas.List.{take_more}
use Rattle.upload_check.specs.Overlay.{position_now}
use Rattle.upload_check.proofs.Touched.{begun_next, begun_all}
use Rattle.upload_check.proofs.sights.View.with_ended.Goals as goal

pub loop-place-init : goal.loop-place-init
loop-place-init c = c.requires

pub loop-place-preserved : goal.loop-place-preserved
loop-place-preserved c =
    begun_next (position_now c.args.self.now) None c.args.begun.now c.args.ended.now c.loop-place.place _ _ _ _
    (take_more c.args.ended.now c.loop-place.place _ (omega (arith, c.loop-place-test.true)))
    c.loop-place.invariant
    c.has_at.ensures
    c.with_element-both.ensures

pub returns : goal.returns
returns c =
    begun_all (position_now c.args.self.now) None c.args.begun.now c.args.ended.now c.loop-place.place _
    (omega (arith, c.loop-place-test.false))
    c.loop-place.invariant
