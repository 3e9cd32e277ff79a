use Rattle.std.proofs.Common.{◌≡◌, true, false, sym, ◌∙◌, rules, arith}
use Rattle.snapshot_hub.proofs.Followed.{follows_next, stops}
use Rattle.snapshot_hub.proofs.twins.follow_all.Goals as goal

pub returns-then-not-taken : goal.returns-then-not-taken
returns-then-not-taken g c =
    let M = g.M.Machine in
    let never : c.in_ok-taken.taken ≡ false = search rules in
    stops M.rules (M.state c.args.world) c.args.entries.now c.loop-place.place c.index-entries-place.result (M.state c.loop-place.world)
    (omega (arith, c.loop-place-test.true)) c.index-entries-place.is c.loop-place.invariant (sym c.in_ok-taken.ensures.answer ∙ never)

pub loop-place-preserved : goal.loop-place-preserved
loop-place-preserved g c =
    let M = g.M.Machine in
    let taken : c.in_ok-taken.taken ≡ true = search rules in
    follows_next M.rules (M.state c.args.world) c.args.entries.now c.loop-place.place c.index-entries-place.result (M.state c.loop-place.world)
    (M.state c.follow_next.new.world) (omega (arith, c.loop-place-test.true)) c.index-entries-place.is c.loop-place.invariant
    (sym c.in_ok-taken.ensures.answer ∙ taken) (c.in_ok-taken.ensures.after (search rules))
