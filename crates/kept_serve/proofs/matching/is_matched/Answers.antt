use Rattle.std.proofs.Common.{◌≡◌, true, sym, ◌∙◌}
use Rattle.std.proofs.lemmas.Bool.{both_ways}
use Rattle.kept_serve.proofs.Serving.{matched_of}
use Rattle.kept_serve.proofs.matching.is_matched.Goals.{then-not-back, else-not-back}
use Rattle.kept_serve.proofs.matching.is_matched.Goals as goal

pub returns : goal.returns
returns g c h =
    let back = c.args.back.now in
    let shelf = c.args.shelf.now in
    let failed : back.withheld ≡ true → shelf.broken ≡ true = λ was. elim c.if-not-back.branch [
      | then-not-back w ↦ absurd (both_ways back.withheld w.if-not-back.true was)
      | else-not-back w ↦ sym w.is_broken.ensures ∙ (sym w.result-is ∙ h)
    ] in
    matched_of back.receipts.items c.deref.result.now back.withheld shelf.broken back.sessions.items c.deref-else-not-are_given.result.now
    shelf.entries c.front.result.now shelf.receipts c.receipts-given.result c.deref.ensures.value c.receipts-given.ensures
    c.deref-else-not-are_given.ensures.value c.front.ensures (c.are_given.ensures c.if-not-are_given.false)
    (λ one each. c.is_seen.ensures one c.if-not-is_seen.false each) failed
