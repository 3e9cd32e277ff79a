use Rattle.std.proofs.Common.{◌≡◌, false, is_some, arith}
use Rattle.std.proofs.lemmas.Int.{to_z-of_z}
use Rattle.std.proofs.lemmas.Result.{err_from_is_err_and}
use Rattle.placeholder_map.specs.Placeholders.{look_of}
use Rattle.osm_change.proofs.Steps.{created-stops, free-when, reference-fits}
use Rattle.osm_change.proofs.build.created.Goals as goal

pub returns-in_err-named-clause-gives : goal.returns-in_err-named-clause-gives
returns-in_err-named-clause-gives c =
    let p = err_from_is_err_and c.from_residual-in_err-named.result c.from_residual-in_err-named.ensures.1 in
    let fits = reference-fits c.args.op.id c.requires in
    let answer = simp to_z-of_z at c.in_ok-bind.ensures.answer in
    let new = c.if-not-branch.false in
    let none : is_some (look_of c.args.placeholders.now c.args.op.kind c.args.op.id) ≡ false = grind arith in
    let small = simp to_z-of_z at c.if-op-gt0.false in
    let free = free-when (look_of c.args.placeholders.now) c.args.op.kind c.args.op.id c.requires small none in
    rw (p.1, p.2) (created-stops (look_of c.args.placeholders.now) c.args.op c.args.content c.local_cause-later.result c.in_err-named.field-0.0 c.args.op.id free c.local_cause-later.ensures.value c.in_err-named.ensures)
