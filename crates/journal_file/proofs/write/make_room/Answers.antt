use Rattle.std.proofs.Common.{◌≡◌, ◌-◌, ℕ, List, length, take, sym, ◌∙◌, ap, subst, arith}
use Rattle.journal_file.specs.Device.{Only}
use Rattle.journal_file.specs.Whole.{text_of}
use Rattle.journal_file.specs.Settled.{IsRoomy, Stands}
use Rattle.journal_file.proofs.Crashes.{roomier, roomy_stands, settled_stands, taken_same}
use Rattle.journal_file.proofs.Moments.{still_start, still_call, still_sync}
use Rattle.journal_file.proofs.write.make_room.Goals as goal

pub returns-then-needed-laid-clause-any_moment : goal.returns-then-needed-laid-clause-any_moment
returns-then-needed-laid-clause-any_moment g c =
    let d = g.D.Device in
    let old = c.args.device.now in
    let seen = d.seen old in
    let text = text_of seen in
    let P : List ℕ → Type 0 = Stands text in
    (still_start d.moment d.left_since d.may_leave P old (g.met.D.Device.only_now old) (settled_stands seen (d.may_leave old) c.args.end text c.requires.settled)).run

pub returns-in_err-lay_by-clause-any_moment : goal.returns-in_err-lay_by-clause-any_moment
returns-in_err-lay_by-clause-any_moment g c =
    let d = g.D.Device in
    let old = c.args.device.now in
    let seen = d.seen old in
    let text = text_of seen in
    let s = c.requires.settled in
    let P : List ℕ → Type 0 = Stands text in
    let start = still_start d.moment d.left_since d.may_leave P old (g.met.D.Device.only_now old) (settled_stands seen (d.may_leave old) c.args.end text s) in
    let new = c.lay_by.new.self in
    let here : (f : List ℕ) → d.may_leave new f → P f = λ f left.
    let from = c.lay_by.ensures.crash f left in
    roomy_stands text f (roomier text from.0 f from.2.some (subst (IsRoomy text) (sym (s.durable from.0 from.1)) s.roomy) from.2.is).0 in
    let one = still_call d.moment d.left_since d.may_leave P old old new start c.lay_by.ensures.time here in
    one.run

pub returns-in_err-sync-clause-any_moment : goal.returns-in_err-sync-clause-any_moment
returns-in_err-sync-clause-any_moment g c =
    let d = g.D.Device in
    let old = c.args.device.now in
    let seen = d.seen old in
    let text = text_of seen in
    let s = c.requires.settled in
    let P : List ℕ → Type 0 = Stands text in
    let start = still_start d.moment d.left_since d.may_leave P old (g.met.D.Device.only_now old) (settled_stands seen (d.may_leave old) c.args.end text s) in
    let new = c.lay_by.new.self in
    let here : (f : List ℕ) → d.may_leave new f → P f = λ f left.
    let from = c.lay_by.ensures.crash f left in
    roomy_stands text f (roomier text from.0 f from.2.some (subst (IsRoomy text) (sym (s.durable from.0 from.1)) s.roomy) from.2.is).0 in
    let one = still_call d.moment d.left_since d.may_leave P old old new start c.lay_by.ensures.time here in
    let two = still_sync d.moment d.left_since d.may_leave P old new c.sync.new.self one c.sync.ensures.time c.sync.ensures.crash in
    two.run

pub returns-clause-any_moment : goal.returns-clause-any_moment
returns-clause-any_moment g c =
    let d = g.D.Device in
    let old = c.args.device.now in
    let seen = d.seen old in
    let text = text_of seen in
    let s = c.requires.settled in
    let P : List ℕ → Type 0 = Stands text in
    let start = still_start d.moment d.left_since d.may_leave P old (g.met.D.Device.only_now old) (settled_stands seen (d.may_leave old) c.args.end text s) in
    let new = c.lay_by.new.self in
    let here : (f : List ℕ) → d.may_leave new f → P f = λ f left.
    let from = c.lay_by.ensures.crash f left in
    roomy_stands text f (roomier text from.0 f from.2.some (subst (IsRoomy text) (sym (s.durable from.0 from.1)) s.roomy) from.2.is).0 in
    let one = still_call d.moment d.left_since d.may_leave P old old new start c.lay_by.ensures.time here in
    let two = still_sync d.moment d.left_since d.may_leave P old new c.sync.new.self one c.sync.ensures.time c.sync.ensures.crash in
    two.run

pub returns-clause-settled : goal.returns-clause-settled
returns-clause-settled g c =
    let d = g.D.Device in
    let seen = d.seen c.args.device.now in
    let text = text_of seen in
    let s = c.requires.settled in
    let new = c.sync.new.self in
    let same = c.in_ok-sync.ensures.seen in
    let longer = roomier text seen (d.seen new) (c.saturating_add-longer.result - c.args.laid) s.roomy (same ∙ c.in_ok-lay_by.ensures.laid) in
    record {
      roomy = longer.0;
      place = s.place ∙ ap length (sym longer.1);
      durable = subst (λ (f : List ℕ). Only f (d.may_leave new)) (sym same) (c.in_ok-sync.ensures.durable (c.in_ok-lay_by.ensures.cause.fine ∙ c.requires.fine));
    }

pub returns-clause-front : goal.returns-clause-front
returns-clause-front g c =
    let d = g.D.Device in
    let seen = d.seen c.args.device.now in
    let s = c.requires.settled in
    taken_same (text_of seen) seen (d.seen c.sync.new.self) c.args.end (c.saturating_add-longer.result - c.args.laid) s.roomy s.place (c.in_ok-sync.ensures.seen ∙ c.in_ok-lay_by.ensures.laid)
