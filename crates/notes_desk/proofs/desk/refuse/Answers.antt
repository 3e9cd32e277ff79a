use Rattle.notes_core.specs.Machine.{note_rules}
use Rattle.desk_parts.proofs.Served.{refusal_replied, nothing_replied}
use Rattle.desk_parts.specs.Replies.{refusal_bytes}
use Rattle.notes_desk.specs.Request.{notes_request_of}
use Rattle.notes_desk.proofs.desk.refuse.Goals as goal

pub returns-in-Refused-clause-answers : goal.returns-in-Refused-clause-answers
returns-in-Refused-clause-answers c users it message moment asks =
    refusal_replied note_rules notes_request_of users it message moment (refusal_bytes c.in-Refused.refusal) c.refusal_reply.result (rw c.in-Refused.is at asks) c.refusal_reply.ensures.reply

pub returns-in-Memory-clause-answers : goal.returns-in-Memory-clause-answers
returns-in-Memory-clause-answers c users it message moment asks = nothing_replied note_rules notes_request_of users it message moment
