use Rattle.std.proofs.Common.{◌≡◌, ◌-◌, ℕ, List, ◌++◌, length, take, sym, ap, ◌∙◌, subst, arith, length-append}
use Rattle.std.specs.Prelude.{replicate}
use Rattle.std.proofs.lemmas.List.{take_at, length-replicate}
use Rattle.journal_file.specs.Device.{Only, Mixed, Holds}
use Rattle.journal_file.specs.Whole.{text_of, whole}
use Rattle.journal_file.specs.Settled.{IsRoomy, HasSome}
use Rattle.journal_file.proofs.Crashes.{holds_long, mixed_some, none_yet, settled_stands, written_roomy, written_taken}
use Rattle.journal_file.proofs.Moments.{still_start, still_call, still_sync}
use Rattle.journal_file.proofs.write.put_batch.Goals as goal

pub write_at-requires-clause-on_disk : goal.write_at-requires-clause-on_disk
write_at-requires-clause-on_disk g c f left =
    let room = c.requires.room in
    omega (arith, room, ap length (c.requires.settled.durable f left))

pub returns-in_err-write_at-clause-any_moment : goal.returns-in_err-write_at-clause-any_moment
returns-in_err-write_at-clause-any_moment g c =
    let d = g.D.Device in
    let old = c.args.device.now in
    let seen = d.seen old in
    let text = text_of seen in
    let batch = c.args.batch.now in
    let s = c.requires.settled in
    let P = HasSome text (whole batch) in
    let start = still_start d.moment d.left_since d.may_leave P old (g.met.D.Device.only_now old) (λ f left. none_yet text (whole batch) f (settled_stands seen (d.may_leave old) c.args.end text s f left)) in
    let new = c.write_at.new.self in
    let here : (f : List ℕ) → d.may_leave new f → P f = λ f left.
    let from = c.write_at.ensures.crash f left in
    mixed_some text batch seen f c.args.end s.roomy s.place c.requires.batch c.requires.room (subst (λ (l : List ℕ). Mixed c.args.end batch l f) (s.durable from.0 from.1) from.2) in
    let one = still_call d.moment d.left_since d.may_leave P old old new start c.write_at.ensures.time here in
    one.run

pub returns-in_err-sync-clause-any_moment : goal.returns-in_err-sync-clause-any_moment
returns-in_err-sync-clause-any_moment g c =
    let d = g.D.Device in
    let old = c.args.device.now in
    let seen = d.seen old in
    let text = text_of seen in
    let batch = c.args.batch.now in
    let s = c.requires.settled in
    let P = HasSome text (whole batch) in
    let start = still_start d.moment d.left_since d.may_leave P old (g.met.D.Device.only_now old) (λ f left. none_yet text (whole batch) f (settled_stands seen (d.may_leave old) c.args.end text s f left)) in
    let new = c.write_at.new.self in
    let here : (f : List ℕ) → d.may_leave new f → P f = λ f left.
    let from = c.write_at.ensures.crash f left in
    mixed_some text batch seen f c.args.end s.roomy s.place c.requires.batch c.requires.room (subst (λ (l : List ℕ). Mixed c.args.end batch l f) (s.durable from.0 from.1) from.2) in
    let one = still_call d.moment d.left_since d.may_leave P old old new start c.write_at.ensures.time here in
    let two = still_sync d.moment d.left_since d.may_leave P old new c.sync.new.self one c.sync.ensures.time c.sync.ensures.crash in
    two.run

pub returns-clause-any_moment : goal.returns-clause-any_moment
returns-clause-any_moment g c =
    let d = g.D.Device in
    let old = c.args.device.now in
    let seen = d.seen old in
    let text = text_of seen in
    let batch = c.args.batch.now in
    let s = c.requires.settled in
    let P = HasSome text (whole batch) in
    let start = still_start d.moment d.left_since d.may_leave P old (g.met.D.Device.only_now old) (λ f left. none_yet text (whole batch) f (settled_stands seen (d.may_leave old) c.args.end text s f left)) in
    let new = c.write_at.new.self in
    let here : (f : List ℕ) → d.may_leave new f → P f = λ f left.
    let from = c.write_at.ensures.crash f left in
    mixed_some text batch seen f c.args.end s.roomy s.place c.requires.batch c.requires.room (subst (λ (l : List ℕ). Mixed c.args.end batch l f) (s.durable from.0 from.1) from.2) in
    let one = still_call d.moment d.left_since d.may_leave P old old new start c.write_at.ensures.time here in
    let two = still_sync d.moment d.left_since d.may_leave P old new c.sync.new.self one c.sync.ensures.time c.sync.ensures.crash in
    two.run

pub returns-clause-settled : goal.returns-clause-settled
returns-clause-settled g c =
    let d = g.D.Device in
    let seen = d.seen c.args.device.now in
    let text = text_of seen in
    let batch = c.args.batch.now in
    let s = c.requires.settled in
    let new = c.sync.new.self in
    let same = c.in_ok-sync.ensures.seen in
    let holds = subst (λ (f : List ℕ). Holds seen c.args.end batch f) (sym same) c.in_ok-write_at.ensures.written in
    let written = written_roomy text batch seen (d.seen new) c.args.end s.roomy s.place c.requires.batch holds in
    record {
      roomy = written.0;
      place = written.1;
      durable = subst (λ (f : List ℕ). Only f (d.may_leave new)) (sym same) (c.in_ok-sync.ensures.durable (c.in_ok-write_at.ensures.cause.fine ∙ c.requires.fine));
    }

pub returns-clause-written : goal.returns-clause-written
returns-clause-written g c =
    let d = g.D.Device in
    let seen = d.seen c.args.device.now in
    let batch = c.args.batch.now in
    let s = c.requires.settled in
    written_taken (text_of seen) batch seen (d.seen c.sync.new.self) c.args.end s.roomy s.place (subst (λ (f : List ℕ). Holds seen c.args.end batch f) (sym c.in_ok-sync.ensures.seen) c.in_ok-write_at.ensures.written)

pub returns-clause-size : goal.returns-clause-size
returns-clause-size g c =
    let d = g.D.Device in
    let seen = d.seen c.args.device.now in
    ap length c.in_ok-sync.ensures.seen ∙ holds_long seen c.args.batch.now (d.seen c.write_at.new.self) c.args.end c.requires.room c.in_ok-write_at.ensures.written
