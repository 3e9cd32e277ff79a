use Rattle.hub_core.proofs.running.Core.play_one.Goals as goal

pub returns : goal.returns
returns g c core stands =
    let gave = c.in_ok-seen.ensures core stands in
    (gave.0, (c.in_ok-seen.seen, c.in_ok-push.ensures.items, gave.1))
