use Rattle.std.proofs.Common.{◌≤◌, ◌++◌, ◌∙◌, length, take, drop, sym, ap, arith}
use Rattle.session_desk.proofs.Lists.{rejoined}
use Rattle.session_desk.proofs.sessions.behind.Goals as goal

pub returns-then-begins-clause-part : goal.returns-then-begins-clause-part
returns-then-begins-clause-part g c =
    let front = c.part.new.session.front in
    let begins = (rw c.front.ensures at c.begins.ensures.begins) c.if-begins.true in
    let fits : length front ≤ 18446744073709551615 = omega (arith, c.seen-seen.ensures) in
    rejoined 18446744073709551615 c.args.front.now front begins fits
    ∙ ap (λ l. c.args.front.now ++ l) (sym (c.in_ok-part.ensures.part ∙ ap (λ n. take 18446744073709551615 (drop n front)) c.len.ensures))
