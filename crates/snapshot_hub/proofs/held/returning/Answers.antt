use Rattle.std.proofs.Common.{◌≡◌, ℕ, ◌∙◌, ap, sym, arith, length, length-append}
use Rattle.hub_core.specs.Journal.{calls_of}
use Rattle.snapshot_hub.specs.Known.{returner}
use Rattle.snapshot_hub.proofs.Fresh.{pushed_each}
use Rattle.snapshot_hub.proofs.held.returning.Goals as goal

pub loop-number-preserved : goal.loop-number-preserved
loop-number-preserved g c =
    let added = c.in_ok-push.ensures.items in
    let before = c.loop-number.invariant in
    let number = c.loop-number.number in
    let journal = c.args.journal.now in
    let calls : ℕ → ℕ = λ n. calls_of g.M.Machine.rules.tag_of n journal in
    let front : c.again-front.result ≡ journal = c.again-front.ensures ∙ c.front.ensures.front ∙ c.requires.same in
    let is : c.at.result ≡ returner number journal (calls number) =
    c.at.ensures ∙ ap (λ f. returner number f c.calls-calls.result) front ∙ ap (λ k. returner number journal k) c.calls-calls.ensures in
    record {
      count = omega (arith, ap length added ∙ length-append c.loop-number.all.items _, before.count);
      back = rw added (pushed_each c.at.result (λ n s. s ≡ returner n journal (calls n)) c.loop-number.all.items before.back (is ∙ ap (λ n. returner n journal (calls n)) (sym before.count)));
    }
