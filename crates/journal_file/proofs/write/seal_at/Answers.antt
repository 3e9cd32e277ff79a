use Rattle.std.proofs.Common.{◌≡◌, ℕ, List, [], ◌∷◌, ◌++◌, ◌+◌, ◌≤◌, length, take, ap, ◌∙◌, subst, arith, append-nil, length-append}
use Rattle.std.specs.Prelude.{replicate}
use Rattle.journal_file.specs.Device.{LeavesOnly}
use Rattle.journal_file.specs.Whole.{text_of, whole}
use Rattle.journal_file.specs.Settled.{IsSettled, HasSome, Stands}
use Rattle.journal_file.proofs.Crashes.{zeros, some_of_none, settled_text, settled_now, taken_two}
use Rattle.journal_file.proofs.Moments.{goes_over, weaker}
use Rattle.journal_file.proofs.write.seal_at.Goals as goal

pub returns-in_err-longer-clause-any_moment : goal.returns-in_err-longer-clause-any_moment
returns-in_err-longer-clause-any_moment g c =
    let d = g.D.Device in
    let old = c.args.device.now in
    let mid = c.add_batch.new.device in
    let text = text_of (d.seen old) in
    weaker d.moment d.left_since old mid (HasSome text []) (Stands text) (some_of_none text) c.add_batch.ensures.any_moment

pub add_batch-requires-2-clause-settled : goal.add_batch-requires-2-clause-settled
add_batch-requires-2-clause-settled g c =
    let d = g.D.Device in
    let old = c.args.device.now in
    let mid = c.add_batch.new.device in
    let text = text_of (d.seen old) in
    settled_now (d.seen mid) (d.may_leave mid) (c.args.end + 1) (text ++ []) c.in_ok-longer.ensures.settled

pub returns-in_err-sealed-clause-any_moment : goal.returns-in_err-sealed-clause-any_moment
returns-in_err-sealed-clause-any_moment g c =
    let d = g.D.Device in
    let old = c.args.device.now in
    let mid = c.add_batch.new.device in
    let text = text_of (d.seen old) in
    let new = c.add_batch-2.new.device in
    let P : List ℕ → Type 0 = Stands text in
    let settled = subst (λ (l : List ℕ). IsSettled (d.seen mid) (d.may_leave mid) (c.args.end + 1) l) (append-nil text) c.in_ok-longer.ensures.settled in
    let same : text_of (d.seen mid) ≡ text = settled_text (d.seen mid) (d.may_leave mid) (c.args.end + 1) text settled in
    let first = weaker d.moment d.left_since old mid (HasSome text []) P (some_of_none text) c.add_batch.ensures.any_moment in
    let on = weaker d.moment d.left_since mid new (HasSome (text_of (d.seen mid)) []) (Stands (text_of (d.seen mid))) (some_of_none (text_of (d.seen mid))) c.add_batch-2.ensures.any_moment in
    let second = subst (λ (l : List ℕ). LeavesOnly d.moment d.left_since mid new (Stands l)) same on in
    goes_over d.moment d.left_since old mid new P P P (λ f stands. stands) (λ f stands. stands) first second

pub returns-clause-any_moment : goal.returns-clause-any_moment
returns-clause-any_moment g c =
    let d = g.D.Device in
    let old = c.args.device.now in
    let mid = c.add_batch.new.device in
    let text = text_of (d.seen old) in
    let new = c.add_batch-2.new.device in
    let P : List ℕ → Type 0 = Stands text in
    let settled = subst (λ (l : List ℕ). IsSettled (d.seen mid) (d.may_leave mid) (c.args.end + 1) l) (append-nil text) c.in_ok-longer.ensures.settled in
    let same : text_of (d.seen mid) ≡ text = settled_text (d.seen mid) (d.may_leave mid) (c.args.end + 1) text settled in
    let first = weaker d.moment d.left_since old mid (HasSome text []) P (some_of_none text) c.add_batch.ensures.any_moment in
    let on = weaker d.moment d.left_since mid new (HasSome (text_of (d.seen mid)) []) (Stands (text_of (d.seen mid))) (some_of_none (text_of (d.seen mid))) c.add_batch-2.ensures.any_moment in
    let second = subst (λ (l : List ℕ). LeavesOnly d.moment d.left_since mid new (Stands l)) same on in
    goes_over d.moment d.left_since old mid new P P P (λ f stands. stands) (λ f stands. stands) first second

pub returns-clause-settled : goal.returns-clause-settled
returns-clause-settled g c =
    let d = g.D.Device in
    let old = c.args.device.now in
    let mid = c.add_batch.new.device in
    let text = text_of (d.seen old) in
    let new = c.add_batch-2.new.device in
    let settled = subst (λ (l : List ℕ). IsSettled (d.seen mid) (d.may_leave mid) (c.args.end + 1) l) (append-nil text) c.in_ok-longer.ensures.settled in
    let same : text_of (d.seen mid) ≡ text = settled_text (d.seen mid) (d.may_leave mid) (c.args.end + 1) text settled in
    let two : c.args.end + 1 + 1 ≡ c.args.end + 2 = omega arith in
    let now = subst (λ (l : List ℕ). IsSettled (d.seen new) (d.may_leave new) (c.args.end + 1 + 1) l) (append-nil (text_of (d.seen mid)) ∙ same) c.in_ok-sealed.ensures.settled in
    subst (λ (n : ℕ). IsSettled (d.seen new) (d.may_leave new) n text) two now

pub returns-clause-written : goal.returns-clause-written
returns-clause-written g c =
    let d = g.D.Device in
    let old = c.args.device.now in
    let mid = c.add_batch.new.device in
    let text = text_of (d.seen old) in
    let new = c.add_batch-2.new.device in
    let s = c.requires.settled in
    let one = c.in_ok-longer.ensures.written in
    let two = c.in_ok-sealed.ensures.written in
    let inside : c.args.end ≤ length (d.seen old) = omega (arith, s.place, ap length s.roomy.is, length-append s.roomy.raw (zeros s.roomy.room)) in
    (two.0, taken_two (d.seen old) (d.seen mid) (d.seen new) c.args.end one.0 two.0 inside one.1 two.1)
