use Rattle.api_desk.proofs.FeedAlone.{feed_answers}
use Rattle.api_desk.proofs.Replies.{change_answers, query_answers}
use Rattle.api_desk.proofs.desk.answer_request.Goals as goal

pub returns-in-Change-clause-answers : goal.returns-in-Change-clause-answers
returns-in-Change-clause-answers g c users message asks =
    change_answers
    users
    c.args.session
    c.args.book.now
    c.change.new.book
    message
    c.args.moment
    c.in-Change.asked.user
    c.in-Change.asked.command
    c.change.result
    (rw c.in-Change.is at asks)
    c.change.ensures.reply
    c.change.ensures.journal
    c.change.ensures.memory

pub returns-in-Read-clause-answers : goal.returns-in-Read-clause-answers
returns-in-Read-clause-answers g c users message asks =
    query_answers users c.args.session c.args.book.now message c.args.moment c.in-Read.query c.query_reply.result (rw c.in-Read.is at asks) c.query_reply.ensures.reply

pub returns-in-Feed-clause-answers : goal.returns-in-Feed-clause-answers
returns-in-Feed-clause-answers g c users message asks =
    feed_answers
    users
    c.args.session
    c.args.book.now
    message
    c.args.moment
    c.in-Feed.call
    c.feed_reply.result
    (rw c.in-Feed.is at asks)
    c.feed_reply.ensures.reply
