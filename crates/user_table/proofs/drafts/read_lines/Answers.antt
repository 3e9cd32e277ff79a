use Rattle.std.proofs.Common.{arith, sym, ◌∙◌, ap}
use Rattle.std.specs.Str.Lines.{lines}
use Rattle.std.specs.Str.Iter.{lines_rest}
use Rattle.std.proofs.lemmas.Iterator.Splits.{YieldsList-from_lines}
use Rattle.std.proofs.lemmas.Iterator.Consumers.{YieldsList-turn, YieldsList-end}
use Rattle.std.proofs.lemmas.List.{length_push}
use Rattle.std.proofs.lemmas.Result.{err_from_is_err_and}
use Rattle.user_table.specs.Drafts.{users_of}
use Rattle.user_table.proofs.LineLemmas.{at_number, line_passes, line_fails, no_line_left, length-lines-le}
use Rattle.user_table.proofs.drafts.read_lines.Goals as goal

pub overflow_add-number : goal.overflow_add-number
overflow_add-number c =
    let all = YieldsList-from_lines {s = c.into_iter-line-iterator.result} c.args.text.now (ap lines_rest c.into_iter-line-iterator.ensures.into_iter_gives ∙ c.lines-line-items.ensures.rest) in
    let at = YieldsList-turn all c.loop-line.yielded _ c.loop-line.yielded_by _ _ c.in-Some.line c.in-Some.is c.next.ensures.steps in
    omega (arith, length-lines-le c.args.text.now, at.0)

pub loop-line-preserved : goal.loop-line-preserved
loop-line-preserved c =
    let all = YieldsList-from_lines {s = c.into_iter-line-iterator.result} c.args.text.now (ap lines_rest c.into_iter-line-iterator.ensures.into_iter_gives ∙ c.lines-line-items.ensures.rest) in
    let turn = YieldsList-turn all c.loop-line.yielded _ c.loop-line.yielded_by _ _ c.in-Some.line c.in-Some.is c.next.ensures.steps in
    let at = at_number c.loop-line.number _ (lines c.args.text.now) c.in-Some.line.now c.loop-line.invariant.counted turn in
    record {
      can_next = tt;
      is_finite = tt;
      indexed = c.in_ok-add_line.ensures.indexed;
      counted = omega (arith, c.loop-line.invariant.counted, length_push c.loop-line.yielded c.in-Some.line);
      rest = line_passes c.loop-line.number (users_of c.loop-line.draft) (users_of c.add_line.new.self) (lines c.args.text.now) c.in-Some.line.now _ at c.loop-line.invariant.rest c.in_ok-add_line.ensures.added;
    }

pub returns-in_err-add_line : goal.returns-in_err-add_line
returns-in_err-add_line c =
    let all = YieldsList-from_lines {s = c.into_iter-line-iterator.result} c.args.text.now (ap lines_rest c.into_iter-line-iterator.ensures.into_iter_gives ∙ c.lines-line-items.ensures.rest) in
    let turn = YieldsList-turn all c.loop-line.yielded _ c.loop-line.yielded_by _ _ c.in-Some.line c.in-Some.is c.next.ensures.steps in
    let at = at_number c.loop-line.number _ (lines c.args.text.now) c.in-Some.line.now c.loop-line.invariant.counted turn in
    let failed = line_fails c.loop-line.number (users_of c.loop-line.draft) (lines c.args.text.now) c.in-Some.line.now _ c.in_err-add_line.field-0.0 at c.loop-line.invariant.rest c.in_err-add_line.ensures.added in
    let p = err_from_is_err_and c.from_residual.result c.from_residual.ensures.1 in rw (p.1, p.2) failed

pub returns : goal.returns
returns c =
    let all = YieldsList-from_lines {s = c.into_iter-line-iterator.result} c.args.text.now (ap lines_rest c.into_iter-line-iterator.ensures.into_iter_gives ∙ c.lines-line-items.ensures.rest) in
    let end = YieldsList-end all c.loop-line.yielded _ c.loop-line.yielded_by _ _ c.in-None.is c.next.ensures.steps in
    sym c.loop-line.invariant.rest ∙ no_line_left c.loop-line.number (users_of c.loop-line.draft) (lines c.args.text.now) (omega (arith, c.loop-line.invariant.counted, end.1))
