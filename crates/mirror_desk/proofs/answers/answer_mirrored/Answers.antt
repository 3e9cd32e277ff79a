use Rattle.http_link.specs.Desk.{counted_reply}
use Rattle.mirror_desk.proofs.Rows.{answers_may}
use Rattle.mirror_desk.proofs.answers.answer_mirrored.Goals as goal

pub returns-clause-answers : goal.returns-clause-answers
returns-clause-answers c =
    answers_may
    c.args.setting.now
    c.args.level.now
    c.args.follower.now
    c.args.message.now
    c.args.moment
    (counted_reply c.answer_on.result)
    c.answer_on.new.follower
    c.answer_on.ensures.answers
