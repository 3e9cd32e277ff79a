use Rattle.std.proofs.Common.{Some, None, refl}
use Rattle.notes_core.specs.Machine.{note_rules}
use Rattle.desk_parts.proofs.Served.{request_replied}
use Rattle.notes_desk.specs.Request.{notes_request_of, shown_request}
use Rattle.notes_desk.proofs.Told.{answer_tells}
use Rattle.notes_desk.proofs.desk.answer_request.Goals as goal

pub reply_from-requires : goal.reply_from-requires
reply_from-requires g c = answer_tells c.args.session.now c.answer_bytes.new.session c.args.request c.args.moment c.in-Ok.bytes c.in-Ok.ensures

pub returns-in-Ok-clause-answers : goal.returns-in-Ok-clause-answers
returns-in-Ok-clause-answers g c users message asks =
    request_replied note_rules notes_request_of users c.args.session.now c.answer_bytes.new.session message (shown_request c.args.request) c.args.moment (Some c.in-Ok.bytes) c.reply_from.result asks c.in-Ok.ensures c.reply_from.ensures.reply

pub returns-in-Err-clause-answers : goal.returns-in-Err-clause-answers
returns-in-Err-clause-answers g c users message asks =
    request_replied note_rules notes_request_of users c.args.session.now c.answer_bytes.new.session message (shown_request c.args.request) c.args.moment None _ asks c.in-Err.ensures refl
