use Rattle.std.proofs.Common.{◌≡◌, ℕ, [], List, ◌∷◌, ◌++◌, length, length-append, Some, Ok, Err, refl, sym, ap, ◌∙◌, subst, arith}
use Rattle.std.specs.Prelude.{Option, slice_get}
use Rattle.osm_base.specs.Place.{Area}
use Rattle.osm_base.specs.declared.keys.Key.{Key}
use Rattle.osm_change.specs.Keys.{key_of}
use Rattle.osm_change.specs.declared.operations.Op.{Op}
use Rattle.osm_later.specs.Looked.{deleted_key, user_named}
use Rattle.osm_world.specs.World.{state_of}
use Rattle.upload_check.specs.Judged.{IsJudged, Leaves}
use Rattle.upload_check.specs.Seen.{looks_of, nothing_seen, with_looks, with_refusal, with_row}
use Rattle.upload_check.specs.declared.judged.Judged.{Judged}
use Rattle.upload_check.proofs.SoFar.{begins, next-run, ends, stops}
use Rattle.upload_check.proofs.planning.find_out.Goals as goal

pub loop-place-init : goal.loop-place-init
loop-place-init g c = record {
  seen = nothing_seen;
  saw = c.requires.saw;
  run = begins (state_of c.args.world.now).elements c.args.change.now c.args.over.now [] [] [] (c.requires.start c.args.change.now) refl refl refl;
  keys = ap (λ (ks : List Key). length ks) c.requires.keys;
  steps = omega arith;
}

pub check_op-requires-clause-stands : goal.check_op-requires-clause-stands
check_op-requires-clause-stands g c =
    let run = c.loop-place.invariant.run 0 in
    record { progress = run.progress; stands = run.stands; counted = c.loop-place.invariant.keys }

pub returns-in-Refused-clause-watched : goal.returns-in-Refused-clause-watched
returns-in-Refused-clause-watched g c =
    let E = (state_of c.args.world.now).elements in
    let s = c.loop-place.invariant.seen in
    let judged = subst (λ (j : Judged). (o : Op) → slice_get c.args.change.now c.loop-place.place ≡ Some o → IsJudged E c.args.change.now o c.loop-place.over c.check_op.new.over j) c.in-Refused.is c.in_ok-done.ensures.judged in
    let all = λ (a : ℕ). (stops E c.args.change.now c.loop-place.over c.check_op.new.over s.rows s.counted s.used (s.counted ++ looks_of E c.op.result.now) ((s.counted ++ looks_of E c.op.result.now) ++ user_named (Err c.in-Refused.refusal)) (s.used ++ deleted_key c.op.result.now) c.loop-place.place c.op.result.now c.in-Refused.refusal a
    (omega (arith, c.loop-place-test.true, c.len-place-end.ensures))
    c.op.ensures
    c.loop-place.invariant.run
    judged
    refl
    refl
    refl) in
    record {
      seen = with_refusal c.in-Refused.refusal (with_looks E c.op.result.now s);
      saw = c.in_ok-refuses-in-Refused.ensures (with_looks E c.op.result.now s) (c.in_ok-looks.ensures s c.loop-place.invariant.saw);
      found = λ a. (all a).found;
      counts = λ a. (all a).counts;
      users = λ a. (all a).users;
    }

pub returns-in-Refused-clause-steps : goal.returns-in-Refused-clause-steps
returns-in-Refused-clause-steps g c =
    let E = (state_of c.args.world.now).elements in
    let s = c.loop-place.invariant.seen in
    let judged = subst (λ (j : Judged). (o : Op) → slice_get c.args.change.now c.loop-place.place ≡ Some o → IsJudged E c.args.change.now o c.loop-place.over c.check_op.new.over j) c.in-Refused.is c.in_ok-done.ensures.judged in
    let counted = (stops E c.args.change.now c.loop-place.over c.check_op.new.over s.rows s.counted s.used (s.counted ++ looks_of E c.op.result.now) ((s.counted ++ looks_of E c.op.result.now) ++ user_named (Err c.in-Refused.refusal)) (s.used ++ deleted_key c.op.result.now) c.loop-place.place c.op.result.now c.in-Refused.refusal 0
    (omega (arith, c.loop-place-test.true, c.len-place-end.ensures))
    c.op.ensures
    c.loop-place.invariant.run
    judged
    refl
    refl
    refl).steps in
    omega (arith, c.check_op.ensures.step, c.loop-place.invariant.steps, counted)

pub loop-place-preserved : goal.loop-place-preserved
loop-place-preserved g c =
    let E = (state_of c.args.world.now).elements in
    let s = c.loop-place.invariant.seen in
    let x = c.op.result.now in
    let judged = subst (λ (j : Judged). (o : Op) → slice_get c.args.change.now c.loop-place.place ≡ Some o → IsJudged E c.args.change.now o c.loop-place.over c.check_op.new.over j) c.in-Done.is c.in_ok-done.ensures.judged in
    let goes = subst (λ (j : Judged). (o : Op) → slice_get c.args.change.now c.loop-place.place ≡ Some o → Leaves o c.loop-place.over c.check_op.new.over j) c.in-Done.is c.in_ok-done.ensures.goes in
    let on = goes x c.op.ensures in
    record {
      seen = with_row c.in-Done.done (with_looks E x s);
      saw = c.in_ok-passes-in-Done.ensures (with_looks E x s) (c.in_ok-looks.ensures s c.loop-place.invariant.saw);
      run = next-run E c.args.change.now c.loop-place.over c.check_op.new.over s.rows (s.rows ++ c.in-Done.done ∷ []) s.counted s.used (s.counted ++ looks_of E x) (s.used ++ deleted_key x) c.loop-place.place x c.in-Done.done
          (omega (arith, c.loop-place-test.true, c.len-place-end.ensures))
          c.op.ensures
          c.loop-place.invariant.run
          judged
          refl
          refl
          refl;
      keys = omega (arith, ap (λ (ks : List Key). length ks) on.keys, length-append c.loop-place.over.keys (key_of c.loop-place.over.keys c.loop-place.over.next x ∷ []), c.loop-place.invariant.keys);
      steps = omega (arith, c.check_op.ensures.step, c.loop-place.invariant.steps);
    }

pub returns-clause-watched : goal.returns-clause-watched
returns-clause-watched g c =
    let s = c.loop-place.invariant.seen in
    let all = λ (a : ℕ). ends (state_of c.args.world.now).elements c.args.change.now c.loop-place.over s.rows s.counted s.used c.loop-place.place a
    (omega (arith, c.loop-place-test.false, c.len-place-end.ensures))
    c.loop-place.invariant.run in
    record {
      seen = s;
      saw = c.loop-place.invariant.saw;
      found = λ a. (all a).found ∙ ap (λ (area : Option Area). Ok (record { rows = s.rows; touched = area })) (sym c.touched.ensures);
      counts = λ a. (all a).counts;
      users = λ a. (all a).users;
    }

pub returns-clause-steps : goal.returns-clause-steps
returns-clause-steps g c =
    let s = c.loop-place.invariant.seen in
    let counted = (ends (state_of c.args.world.now).elements c.args.change.now c.loop-place.over s.rows s.counted s.used c.loop-place.place 0
    (omega (arith, c.loop-place-test.false, c.len-place-end.ensures))
    c.loop-place.invariant.run).steps in
    omega (arith, c.loop-place.invariant.steps, counted)
