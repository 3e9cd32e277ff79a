use Rattle.std.proofs.Common.{Option, ap, unwrap_or, ℕ}
use Rattle.hub_core.proofs.Calls.{none_past}
use Rattle.hub_core.proofs.counted.place_before.Goals as goal

pub returns-clause-last : goal.returns-clause-last
returns-clause-last c =
    let range = c.range.ensures.in_range tt in
    let steps = c.in_ok-before.ensures.steps in (
      ap (λ (o : Option ℕ). unwrap_or o 0) (range.3 _ _ steps).1,
      none_past c.args.calls.now c.in_ok-before.before.now c.args.session (λ session less some. range.4 _ _ steps session (tt, less) some) c.requires,
    )
