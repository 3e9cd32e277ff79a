use Rattle.std.proofs.Common.{ap, arith}
use Rattle.std.proofs.lemmas.List.Sums.{sum_by_more}
use Rattle.step_hub.proofs.fronts.is_growth.Goals as goal

pub loop-desk-preserved : goal.loop-desk-preserved
loop-desk-preserved g c =
    let at = g.D.FrontDesk.at in
    omega (
      arith,
      c.loop-desk.invariant,
      c.in-Some.ensures,
      c.grown.ensures,
      ap (λ d. (at d).grown) c.desk-item.is,
      sum_by_more (λ d. (at d).grown) c.args.desks.now c.loop-desk.desk-index c.desk-item.result c.loop-desk-test.true,
    )
