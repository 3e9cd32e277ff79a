use Rattle.std.proofs.Common.{subst}
use Rattle.snapshot_hub.specs.Closed.{HasAllOf}
use Rattle.snapshot_hub.proofs.Prefixes.{each_more}
use Rattle.snapshot_hub.proofs.closing.await_all.Goals as goal

pub loop-session-preserved : goal.loop-session-preserved
loop-session-preserved g c =
    let has = HasAllOf g.M.Machine.rules c.args.held.now.journal in
    each_more has has (λ s h. h) c.args.sessions.now c.loop-session.session-index c.session-item.result c.loop-session-test.true c.loop-session.invariant
    (rw (← c.session-item.is) c.await_session.ensures)
