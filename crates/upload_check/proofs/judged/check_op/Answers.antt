use Rattle.std.proofs.Common.{List, sym, subst}
use Rattle.osm_change.specs.declared.operations.Op.{Op}
use Rattle.osm_world.specs.World.{state_of}
use Rattle.upload_check.specs.Effects.{HasUsers}
use Rattle.upload_check.specs.Overlay.{sight}
use Rattle.upload_check.proofs.Alike.{still_stands}
use Rattle.upload_check.proofs.Entered.{has-users, is-fresh, judged-passed, judged-goes, judged-refused}
use Rattle.upload_check.proofs.judged.check_op.Goals as goal

pub pass-requires-clause-users : goal.pass-requires-clause-users
pass-requires-clause-users g c =
    let E = (state_of c.args.world.now).elements in
    subst (λ (l : List Op). HasUsers (sight E l c.args.over.now) c.in-Ok.passed.step.key) (sym c.operations-operations.ensures.all)
    (has-users (sight E c.args.change.now c.args.over.now) c.requires.stands.progress c.in-Ok.passed.step.key c.requires.stands.stands)

pub pass-requires-clause-fresh : goal.pass-requires-clause-fresh
pass-requires-clause-fresh g c =
    is-fresh (state_of c.args.world.now).elements c.args.change.now c.operations-operations.result.now c.args.over.now c.requires.stands.progress c.op-operation.result.now c.in-Ok.passed.step
    c.requires.stands.stands
    c.operations-operations.ensures.all
    c.in-Ok.ensures.step

pub returns-in_ok-done-in-Ok-clause-judged : goal.returns-in_ok-done-in-Ok-clause-judged
returns-in_ok-done-in-Ok-clause-judged g c = λ o asked.
    judged-passed (state_of c.args.world.now).elements c.args.change.now c.operations-operations.result.now c.args.over.now c.pass.new.over c.args.place o c.op-operation.result.now c.in-Ok.passed.step c.in_ok-done-in-Ok.done
    (record { all = c.operations-operations.ensures.all; counted = c.requires.stands.counted; at = c.op-operation.ensures; asked = asked })
    c.in-Ok.ensures.step
    c.in_ok-done-in-Ok.ensures.entered
    c.in_ok-done-in-Ok.ensures.done

pub returns-in_ok-done-in-Ok-clause-goes : goal.returns-in_ok-done-in-Ok-clause-goes
returns-in_ok-done-in-Ok-clause-goes g c = λ o asked.
    judged-goes (state_of c.args.world.now).elements c.args.change.now c.operations-operations.result.now c.args.over.now c.pass.new.over c.args.place o c.op-operation.result.now c.in-Ok.passed.step
    (record { all = c.operations-operations.ensures.all; counted = c.requires.stands.counted; at = c.op-operation.ensures; asked = asked })
    c.in-Ok.ensures.step
    c.in_ok-done-in-Ok.ensures.entered

pub returns-in-Err-clause-judged : goal.returns-in-Err-clause-judged
returns-in-Err-clause-judged g c = λ o asked.
    judged-refused (state_of c.args.world.now).elements c.args.change.now c.operations-operations.result.now c.args.over.now c.args.place o c.op-operation.result.now c.in-Err.refusal
    (record { all = c.operations-operations.ensures.all; counted = c.requires.stands.counted; at = c.op-operation.ensures; asked = asked })
    c.in-Err.ensures

pub returns-in_err-done-in-Ok-clause-still : goal.returns-in_err-done-in-Ok-clause-still
returns-in_err-done-in-Ok-clause-still g c =
    still_stands c.from_residual.result (state_of c.args.world.now).elements c.args.change.now c.args.over.now c.pass.new.over c.in_err-done-in-Ok.ensures.memory
