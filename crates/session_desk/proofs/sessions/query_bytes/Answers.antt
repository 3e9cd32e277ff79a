use Rattle.session_desk.specs.Rows.Request.{Reads}
use Rattle.session_desk.specs.Steps.{told}
use Rattle.session_desk.proofs.Rows.{unanswered}
use Rattle.session_desk.proofs.Settled.{answers_settled}
use Rattle.session_desk.proofs.sessions.query_bytes.Goals as goal

pub returns-in-Ok : goal.returns-in-Ok
returns-in-Ok g c =
    answers_settled g.M.Machine.rules c.args.session.now c.settle_first.new.session c.answer_query.new.session (Reads c.args.query.now) c.args.moment (told c.answer_query.result) c.in-Ok.ensures.ok c.answer_query.ensures

pub returns-in-Err : goal.returns-in-Err
returns-in-Err g c = unanswered g.M.Machine.rules c.args.session.now c.settle_first.new.session (Reads c.args.query.now) c.args.moment c.in-Err.ensures.err
