use Rattle.std.proofs.Common.{◌≡◌, ℕ, List, ◌++◌, ◌+◌, length, take, ap, ◌∙◌, subst}
use Rattle.std.specs.Prelude.{replicate}
use Rattle.journal_file.specs.Device.{LeavesOnly}
use Rattle.journal_file.specs.Whole.{text_of, whole}
use Rattle.journal_file.specs.Settled.{IsSettled, HasSome, Stands}
use Rattle.journal_file.proofs.Crashes.{none_yet, settled_text, settled_now}
use Rattle.journal_file.proofs.Moments.{goes_over, weaker}
use Rattle.journal_file.proofs.write.add_batch.Goals as goal

pub put_batch-requires-clause-settled : goal.put_batch-requires-clause-settled
put_batch-requires-clause-settled g c =
    let d = g.D.Device in
    let mid = c.make_room.new.device in
    settled_now (d.seen mid) (d.may_leave mid) c.args.end (text_of (d.seen c.args.device.now)) c.in_ok-longer.ensures.settled

pub returns-in_err-longer-clause-any_moment : goal.returns-in_err-longer-clause-any_moment
returns-in_err-longer-clause-any_moment g c =
    let d = g.D.Device in
    let old = c.args.device.now in
    let text = text_of (d.seen old) in
    let lines = whole c.args.batch.now in
    weaker d.moment d.left_since old c.make_room.new.device (Stands text) (HasSome text lines) (λ f stands. none_yet text lines f stands) c.make_room.ensures.any_moment

pub returns-in_err-put_batch-clause-any_moment : goal.returns-in_err-put_batch-clause-any_moment
returns-in_err-put_batch-clause-any_moment g c =
    let d = g.D.Device in
    let old = c.args.device.now in
    let mid = c.make_room.new.device in
    let new = c.put_batch.new.device in
    let text = text_of (d.seen old) in
    let lines = whole c.args.batch.now in
    let s = c.in_ok-longer.ensures.settled in
    let same : text_of (d.seen mid) ≡ text = settled_text (d.seen mid) (d.may_leave mid) c.args.end text s in
    let P = HasSome text lines in
    let on = subst (λ (l : List ℕ). LeavesOnly d.moment d.left_since mid new (HasSome l lines)) same c.put_batch.ensures.any_moment in
    goes_over d.moment d.left_since old mid new (Stands text) P P (λ f stands. none_yet text lines f stands) (λ f has. has) c.make_room.ensures.any_moment on

pub returns-clause-any_moment : goal.returns-clause-any_moment
returns-clause-any_moment g c =
    let d = g.D.Device in
    let old = c.args.device.now in
    let mid = c.make_room.new.device in
    let new = c.put_batch.new.device in
    let text = text_of (d.seen old) in
    let lines = whole c.args.batch.now in
    let s = c.in_ok-longer.ensures.settled in
    let same : text_of (d.seen mid) ≡ text = settled_text (d.seen mid) (d.may_leave mid) c.args.end text s in
    let P = HasSome text lines in
    let on = subst (λ (l : List ℕ). LeavesOnly d.moment d.left_since mid new (HasSome l lines)) same c.put_batch.ensures.any_moment in
    goes_over d.moment d.left_since old mid new (Stands text) P P (λ f stands. none_yet text lines f stands) (λ f has. has) c.make_room.ensures.any_moment on

pub returns-clause-settled : goal.returns-clause-settled
returns-clause-settled g c =
    let d = g.D.Device in
    let mid = c.make_room.new.device in
    let new = c.put_batch.new.device in
    let text = text_of (d.seen c.args.device.now) in
    let batch = c.args.batch.now in
    let same : text_of (d.seen mid) ≡ text = settled_text (d.seen mid) (d.may_leave mid) c.args.end text c.in_ok-longer.ensures.settled in
    subst (λ (l : List ℕ). IsSettled (d.seen new) (d.may_leave new) (c.args.end + length batch) (l ++ whole batch)) same c.in_ok-put_batch.ensures.settled

pub returns-clause-written : goal.returns-clause-written
returns-clause-written g c =
    let w = c.in_ok-put_batch.ensures.written in
    (w.0, w.1 ∙ ap (λ (l : List ℕ). l ++ (c.args.batch.now ++ replicate w.0 0)) c.in_ok-longer.ensures.front)
