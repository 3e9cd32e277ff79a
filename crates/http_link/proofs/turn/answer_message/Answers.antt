use Rattle.std.proofs.Common.{refl}
use Rattle.http_link.specs.Desk.{counted_reply}
use Rattle.http_link.specs.Exchange.{Telling}
use Rattle.http_link.proofs.TurnLemmas.{Replies-from_parts, still_rose}
use Rattle.http_link.proofs.turn.answer_message.Goals as goal

pub returns-in-Ok-clause-replies : goal.returns-in-Ok-clause-replies
returns-in-Ok-clause-replies g c =
    let now = c.now-moment.ensures in
    let writes = rw c.closes-close.ensures at c.send.ensures.writes in
    let answer = c.answer-answer in
    let allowed = c.may_tell.ensures.allowed _ _ _ _ answer.ensures.allowed in
    Replies-from_parts (Telling g.D.Desk.allows g.D.Desk.tells g.D.Desk.shows) _ _ _ _ _ _ c.args.count c.args.message c.now-moment.result
    (counted_reply answer.result) (g.D.Desk.shows c.may_tell.new.self) c.send.result now.trace now.fixed c.in-Ok.ensures.shown (allowed, c.in-Ok.ensures.tells, refl) writes

pub returns-in-Ok-clause-failed : goal.returns-in-Ok-clause-failed
returns-in-Ok-clause-failed g c =
    λ fails.
    still_rose (g.L.Outside.told c.args.link.now) (g.L.Outside.told c.now-moment.new.self) (g.L.Outside.told c.may_tell.new.link) (g.L.Outside.told c.send.new.sink)
    c.now-moment.result (g.D.Desk.shows c.may_tell.new.self) c.now-moment.ensures.trace c.in-Ok.ensures.shown (c.send.ensures.failed fails)
