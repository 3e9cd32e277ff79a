use Rattle.std.proofs.Common.{⊎_elim, sym, subst}
use mathlib.Core.List.{IsPrefix}
use Rattle.step_hub.proofs.Beginnings.{prefix_trans, each_more}
use Rattle.step_hub.proofs.fronts.longest.Goals as goal

pub loop-desk-preserved : goal.loop-desk-preserved
loop-desk-preserved g c =
    let before = c.loop-desk.invariant in
    let L = g.S.Stepped.legal in
    let at = g.D.FrontDesk.at in
    let there = c.front-in-loop-desk.ensures in record {
      legal = ⊎_elim (λ e. subst L (sym e) before.legal) (λ e. subst L (sym e) (subst L (sym there.front) there.legal)) c.longer-front.ensures.is_one;
      goes_on = prefix_trans c.args.first.now c.loop-desk.front c.longer-front.result before.goes_on c.longer-front.ensures.this;
      begin =
          each_more (λ d. IsPrefix (at d).front c.loop-desk.front) (λ d. IsPrefix (at d).front c.longer-front.result)
          (λ d p. prefix_trans (at d).front c.loop-desk.front c.longer-front.result p c.longer-front.ensures.this)
          c.args.desks.now c.loop-desk.desk-index c.desk-item.result c.loop-desk-test.true before.begin
          (rw (← c.desk-item.is) (subst (λ l. IsPrefix l c.longer-front.result) there.front c.longer-front.ensures.that));
    }
