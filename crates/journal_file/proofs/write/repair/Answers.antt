use Rattle.std.proofs.Common.{◌≡◌, ◌-◌, ℕ, List, length, take, drop, sym, ◌∙◌, ap, subst, arith}
use Rattle.std.proofs.lemmas.List.{take_rest}
use Rattle.journal_file.specs.Device.{Only, Cut}
use Rattle.journal_file.specs.Whole.{text_of, rest_of}
use Rattle.journal_file.specs.Settled.{AreZeros, IsRoomy, Keeps}
use Rattle.journal_file.proofs.Cuts.{cut_keeps, cut_roomy, is_roomy, rest_dropped, same_keeps}
use Rattle.journal_file.proofs.Moments.{still_start, still_call, still_sync}
use Rattle.journal_file.proofs.write.repair.Goals as goal

pub returns-then-are_zeros-clause-settled : goal.returns-then-are_zeros-clause-settled
returns-then-are_zeros-clause-settled g c =
    let d = g.D.Device in
    let file = c.args.file.now in
    let n = c.args.end in
    let zeros = subst AreZeros (take_rest file n ∙ rest_dropped file c.requires.text n c.requires.place) (c.are_zeros.ensures.0 c.if-are_zeros.true) in
    let roomy = is_roomy file c.requires.text n c.requires.place zeros in
    let there = subst (λ (f : List ℕ). (r : IsRoomy (text_of file) f) × (n ≡ length r.raw)) c.requires.read roomy in
    record { roomy = there.0; place = there.1; durable = c.requires.durable }

pub returns-then-are_zeros-clause-any_moment : goal.returns-then-are_zeros-clause-any_moment
returns-then-are_zeros-clause-any_moment g c =
    let d = g.D.Device in
    let old = c.args.device.now in
    let file = c.args.file.now in
    let n = c.args.end in
    let P : List ℕ → Type 0 = Keeps file in
    let was : (f : List ℕ) → d.may_leave old f → f ≡ file = λ f left. c.requires.durable f left ∙ sym c.requires.read in
    let start = still_start d.moment d.left_since d.may_leave P old (g.met.D.Device.only_now old) (λ f left. same_keeps file f (was f left)) in
    start.run

pub returns-in_err-cut-clause-any_moment : goal.returns-in_err-cut-clause-any_moment
returns-in_err-cut-clause-any_moment g c =
    let d = g.D.Device in
    let old = c.args.device.now in
    let file = c.args.file.now in
    let n = c.args.end in
    let P : List ℕ → Type 0 = Keeps file in
    let was : (f : List ℕ) → d.may_leave old f → f ≡ file = λ f left. c.requires.durable f left ∙ sym c.requires.read in
    let start = still_start d.moment d.left_since d.may_leave P old (g.met.D.Device.only_now old) (λ f left. same_keeps file f (was f left)) in
    let new = c.cut.new.self in
    let here : (f : List ℕ) → d.may_leave new f → P f = λ f left.
    let from = c.cut.ensures.crash f left in
    cut_keeps file c.requires.text n c.requires.place f (subst (λ (l : List ℕ). Cut n l f) (was from.0 from.1) from.2) in
    let one = still_call d.moment d.left_since d.may_leave P old old new start c.cut.ensures.time here in
    one.run

pub returns-in_err-sync-clause-any_moment : goal.returns-in_err-sync-clause-any_moment
returns-in_err-sync-clause-any_moment g c =
    let d = g.D.Device in
    let old = c.args.device.now in
    let file = c.args.file.now in
    let n = c.args.end in
    let P : List ℕ → Type 0 = Keeps file in
    let was : (f : List ℕ) → d.may_leave old f → f ≡ file = λ f left. c.requires.durable f left ∙ sym c.requires.read in
    let start = still_start d.moment d.left_since d.may_leave P old (g.met.D.Device.only_now old) (λ f left. same_keeps file f (was f left)) in
    let new = c.cut.new.self in
    let here : (f : List ℕ) → d.may_leave new f → P f = λ f left.
    let from = c.cut.ensures.crash f left in
    cut_keeps file c.requires.text n c.requires.place f (subst (λ (l : List ℕ). Cut n l f) (was from.0 from.1) from.2) in
    let one = still_call d.moment d.left_since d.may_leave P old old new start c.cut.ensures.time here in
    let two = still_sync d.moment d.left_since d.may_leave P old new c.sync.new.self one c.sync.ensures.time c.sync.ensures.crash in
    two.run

pub returns-clause-any_moment : goal.returns-clause-any_moment
returns-clause-any_moment g c =
    let d = g.D.Device in
    let old = c.args.device.now in
    let file = c.args.file.now in
    let n = c.args.end in
    let P : List ℕ → Type 0 = Keeps file in
    let was : (f : List ℕ) → d.may_leave old f → f ≡ file = λ f left. c.requires.durable f left ∙ sym c.requires.read in
    let start = still_start d.moment d.left_since d.may_leave P old (g.met.D.Device.only_now old) (λ f left. same_keeps file f (was f left)) in
    let new = c.cut.new.self in
    let here : (f : List ℕ) → d.may_leave new f → P f = λ f left.
    let from = c.cut.ensures.crash f left in
    cut_keeps file c.requires.text n c.requires.place f (subst (λ (l : List ℕ). Cut n l f) (was from.0 from.1) from.2) in
    let one = still_call d.moment d.left_since d.may_leave P old old new start c.cut.ensures.time here in
    let two = still_sync d.moment d.left_since d.may_leave P old new c.sync.new.self one c.sync.ensures.time c.sync.ensures.crash in
    two.run

pub returns-clause-settled : goal.returns-clause-settled
returns-clause-settled g c =
    let d = g.D.Device in
    let file = c.args.file.now in
    let n = c.args.end in
    let new = c.sync.new.self in
    let same = c.in_ok-sync.ensures.seen in
    let roomy = cut_roomy file c.requires.text n c.requires.place (d.seen new) (same ∙ c.in_ok-cut.ensures.cut ∙ ap (λ (l : List ℕ). take n l) (sym c.requires.read)) in
    record {
      roomy = roomy.0;
      place = roomy.1;
      durable = subst (λ (f : List ℕ). Only f (d.may_leave new)) (sym same) (c.in_ok-sync.ensures.durable (c.in_ok-cut.ensures.cause.fine ∙ c.requires.fine));
    }
