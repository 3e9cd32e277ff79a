use Rattle.api_desk.proofs.Replies.{memory_stays, refusal_stays}
use Rattle.api_desk.proofs.ReplyBytes.{refusal_said, refusal_told}
use Rattle.api_desk.proofs.answers.refuse.Goals as goal

pub returns-in-Refused-clause-answers : goal.returns-in-Refused-clause-answers
returns-in-Refused-clause-answers c users session F place message moment asks =
    refusal_stays users session F place message moment c.in-Refused.refusal c.refusal_reply.result (rw c.in-Refused.is at asks)
    (refusal_said c.in-Refused.refusal c.refusal_reply.result c.refusal_reply.ensures.reply)

pub returns-in-Memory-clause-answers : goal.returns-in-Memory-clause-answers
returns-in-Memory-clause-answers c users session F place message moment asks = memory_stays users session F place message moment

pub returns-in-Refused-clause-told : goal.returns-in-Refused-clause-told
returns-in-Refused-clause-told c = rw c.in-Refused.is (refusal_told c.in-Refused.refusal c.refusal_reply.result c.refusal_reply.ensures.reply)
