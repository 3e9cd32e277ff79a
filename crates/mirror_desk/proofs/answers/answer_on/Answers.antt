use Rattle.http_link.specs.Desk.{counted_reply}
use Rattle.mirror_desk.specs.Level.{holds_back}
use Rattle.mirror_desk.proofs.Rows.{message_answered}
use Rattle.mirror_desk.proofs.answers.answer_on.Goals as goal

pub returns-clause-answers : goal.returns-clause-answers
returns-clause-answers g c =
    message_answered
    c.args.setting.now.users
    (holds_back c.args.setting.now.only_level c.args.level.now c.args.moment)
    c.args.follower.now
    c.args.message.now
    c.args.moment
    (counted_reply c.answer_message-reply.result)
    c.answer_message-reply.new.follower
    c.answer_message-reply.ensures.answers
    c.laws.ensures
