use Rattle.std.proofs.lemmas.Result.{err_from_is_err_and}
use Rattle.user_table.proofs.LineLemmas.{table_of-not_utf8, lines_refuse, lines_give}
use Rattle.user_table.proofs.tables.UserTable.read.Goals as goal

pub returns-in_err-draft-in-Ok : goal.returns-in_err-draft-in-Ok
returns-in_err-draft-in-Ok c =
    let refused = lines_refuse c.args.text.now c.in-Ok.text.now c.in_err-draft-in-Ok.field-0.0 c.if-text-gt-USERS_LIMIT.false c.in-Ok.ensures.cases.1 c.in-Ok.ensures.cases.0 c.in_err-draft-in-Ok.ensures in
    let p = err_from_is_err_and c.from_residual.result c.from_residual.ensures.1 in rw (p.1, p.2) refused

pub returns-in_ok-draft-in-Ok : goal.returns-in_ok-draft-in-Ok
returns-in_ok-draft-in-Ok c =
    lines_give c.args.text.now c.in-Ok.text.now _ c.if-text-gt-USERS_LIMIT.false c.in-Ok.ensures.cases.1 c.in-Ok.ensures.cases.0 c.in_ok-draft-in-Ok.ensures

pub returns-in-Err : goal.returns-in-Err
returns-in-Err c = table_of-not_utf8 c.args.text.now c.if-text-gt-USERS_LIMIT.false c.in-Err.ensures.cases.0
