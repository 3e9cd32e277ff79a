use Rattle.std.proofs.Common.{ℕ, List, Bool, sym, subst}
use Rattle.http_link.specs.Desk.{counted_reply}
use Rattle.mirror_desk.specs.Answers.{AnswersAsk}
use Rattle.mirror_desk.specs.Gives.{shown_ask}
use Rattle.mirror_desk.specs.Request.{Ask, request_of}
use Rattle.mirror_desk.proofs.Rows.{none_heard, refused_on}
use Rattle.mirror_desk.proofs.answers.answer_message.Goals as goal

pub returns-in-Ok-clause-answers : goal.returns-in-Ok-clause-answers
returns-in-Ok-clause-answers g c =
    subst
    (λ (held : Bool). AnswersAsk held c.args.follower.now c.args.moment (request_of c.args.setting.now.users c.args.message.now) (counted_reply c.answer_request.result) c.answer_request.new.follower)
    c.holds_back-is_held_back.ensures
    (subst
    (λ (it : Ask). AnswersAsk c.holds_back-is_held_back.result c.args.follower.now c.args.moment it (counted_reply c.answer_request.result) c.answer_request.new.follower)
    (sym c.in-Ok.ensures.gives)
    (subst
    (λ (body : List ℕ). AnswersAsk c.holds_back-is_held_back.result c.args.follower.now c.args.moment (shown_ask body c.in-Ok.request) (counted_reply c.answer_request.result) c.answer_request.new.follower)
    c.as_slice-body.ensures
    c.answer_request.ensures.answers))

pub returns-in-Err-clause-answers : goal.returns-in-Err-clause-answers
returns-in-Err-clause-answers g c =
    refused_on
    _
    c.args.follower.now
    c.args.moment
    (request_of c.args.setting.now.users c.args.message.now)
    c.args.message.now.body
    c.in-Err.fault
    c.refuse.result
    c.in-Err.ensures.gives
    c.refuse.ensures.told

pub returns-in-Err-clause-level : goal.returns-in-Err-clause-level
returns-in-Err-clause-level g c =
    none_heard
    (request_of c.args.setting.now.users c.args.message.now)
    c.args.message.now.body
    c.in-Err.fault
    c.refuse.result
    c.args.level.now
    c.args.moment
    c.in-Err.ensures.gives
    c.refuse.ensures.told
