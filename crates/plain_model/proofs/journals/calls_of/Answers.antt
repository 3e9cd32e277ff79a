use Rattle.std.proofs.Common.{◌≡◌, ℕ, ◌∙◌, ap, length, take, arith, sym, take_all}
use Rattle.osm_model.specs.Journal.{calls_of}
use Rattle.plain_model.proofs.Calls.{calls_of-few, other_session, number_of_last}
use Rattle.plain_model.proofs.journals.calls_of.Goals as goal

pub loop-place-init : goal.loop-place-init
loop-place-init c = ap (calls_of c.args.session) (sym (take_all (length c.args.entries.now) c.args.entries.now (omega arith)))

pub returns-then-entry-session-clause-counted : goal.returns-then-entry-session-clause-counted
returns-then-entry-session-clause-counted c =
    number_of_last c.args.session c.args.entries.now c.loop-place.place c.index-entries-place.result c.loop-place-test.true c.loop-place.auto.place
    c.index-entries-place.is c.requires c.if-entry-session.true
    ∙ sym c.loop-place.invariant

pub returns-then-entry-session-clause-few : goal.returns-then-entry-session-clause-few
returns-then-entry-session-clause-few c =
    omega (arith, returns-then-entry-session-clause-counted c, calls_of-few c.args.session c.args.entries.now)

pub loop-place-preserved : goal.loop-place-preserved
loop-place-preserved c =
    c.loop-place.invariant
    ∙ other_session c.args.session c.args.entries.now c.loop-place.place c.index-entries-place.result c.loop-place-test.true c.loop-place.auto.place
    c.index-entries-place.is c.if-entry-session.false

pub returns-clause-counted : goal.returns-clause-counted
returns-clause-counted c =
    let none : c.loop-place.place ≡ 0 = omega (arith, c.loop-place-test.false) in
    sym (c.loop-place.invariant ∙ ap (λ (n : ℕ). calls_of c.args.session (take n c.args.entries.now)) none)
