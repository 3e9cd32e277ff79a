use Rattle.osm_model.specs.Answered.{does, reads}
use Rattle.http_link.specs.Desk.{counted_reply}
use Rattle.session_desk.specs.Steps.{told}
use Rattle.api_desk.proofs.HubReplies.{all_tell, replied}
use Rattle.api_desk.proofs.hub_desk.answer_request.Goals as goal

pub reply_told-requires : goal.reply_told-requires
reply_told-requires g c =
    all_tell
    c.args.session.now
    c.command_bytes-answer.new.session
    (does c.in-Change.asked.user c.in-Change.asked.command)
    c.args.moment
    c.command_bytes-answer.result
    c.command_bytes-answer.ensures

pub returns-in-Change-clause-answers : goal.returns-in-Change-clause-answers
returns-in-Change-clause-answers g c users message asks =
    replied
    users
    c.args.session.now
    c.command_bytes-answer.new.session
    message
    (does c.in-Change.asked.user c.in-Change.asked.command)
    c.args.moment
    (told c.command_bytes-answer.result)
    (counted_reply c.reply_told.result)
    (rw c.in-Change.is at asks)
    c.command_bytes-answer.ensures
    c.reply_told.ensures.tells

pub reply_told-requires-in-Read : goal.reply_told-requires-in-Read
reply_told-requires-in-Read g c =
    all_tell c.args.session.now c.query_bytes-answer.new.session (reads c.in-Read.query) c.args.moment c.query_bytes-answer.result c.query_bytes-answer.ensures

pub returns-in-Read-clause-answers : goal.returns-in-Read-clause-answers
returns-in-Read-clause-answers g c users message asks =
    replied
    users
    c.args.session.now
    c.query_bytes-answer.new.session
    message
    (reads c.in-Read.query)
    c.args.moment
    (told c.query_bytes-answer.result)
    (counted_reply c.reply_told-in-Read.result)
    (rw c.in-Read.is at asks)
    c.query_bytes-answer.ensures
    c.reply_told-in-Read.ensures.tells

pub returns-in-Feed-clause-answers : goal.returns-in-Feed-clause-answers
returns-in-Feed-clause-answers g c users message asks = c.answer_feed.ensures.answers users message c.args.moment (rw c.in-Feed.is at asks)
