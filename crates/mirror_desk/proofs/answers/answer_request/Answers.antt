use Rattle.std.proofs.Common.{◌+◌, length, refl}
use Rattle.api_desk.specs.Feed.{fed}
use Rattle.api_desk.specs.declared.feed.FeedCall.TheVariants.{State}
use Rattle.mirror_desk.specs.Answers.{as_server, levelled, read_only}
use Rattle.mirror_desk.specs.Request.{forbids, levels, states}
use Rattle.mirror_desk.proofs.Rows.{told_on}
use Rattle.mirror_desk.proofs.answers.answer_request.Goals as goal

pub returns-in-Forbidden-clause-answers : goal.returns-in-Forbidden-clause-answers
returns-in-Forbidden-clause-answers g c =
    rw c.in-Forbidden.is
    (told_on c.args.is_held_back c.args.follower.now c.args.moment forbids read_only c.read_only.result (refl, refl) c.read_only.ensures.reply)

pub returns-in-State-clause-answers : goal.returns-in-State-clause-answers
returns-in-State-clause-answers g c =
    let old = c.args.follower.now in
    rw
    c.in-State.is
    (told_on c.args.is_held_back old c.args.moment states (as_server (fed old State)) c.feed_reply.result (refl, refl) (rw c.book.ensures.book at c.feed_reply.ensures.reply))

pub returns-in-Level-clause-answers : goal.returns-in-Level-clause-answers
returns-in-Level-clause-answers g c =
    let old = c.args.follower.now in
    rw
    c.in-Level.is
    (told_on c.args.is_held_back old c.args.moment levels (levelled (length old + 1)) c.levelled.result (refl, refl) (rw c.next_number.ensures.next at c.levelled.ensures.reply))
