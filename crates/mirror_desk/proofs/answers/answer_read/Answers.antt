use Rattle.mirror_desk.proofs.Rows.{answered, held_back}
use Rattle.mirror_desk.proofs.answers.answer_read.Goals as goal

pub returns-then-is_held_back-clause-answers : goal.returns-then-is_held_back-clause-answers
returns-then-is_held_back-clause-answers g c =
    held_back c.args.is_held_back c.args.follower.now c.args.moment c.args.query c.not_level.result c.if-is_held_back.true c.not_level.ensures.reply

pub returns-else-is_held_back-clause-answers : goal.returns-else-is_held_back-clause-answers
returns-else-is_held_back-clause-answers g c =
    answered c.args.is_held_back c.args.follower.now c.args.moment c.args.query c.query_reply.result c.if-is_held_back.false (rw c.book.ensures.book at c.query_reply.ensures.reply)
