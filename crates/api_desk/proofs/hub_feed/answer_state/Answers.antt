use Rattle.std.proofs.Common.{sym, subst, ◌∙◌}
use Rattle.osm_change.specs.Moments.{IsShownMoment}
use Rattle.api_desk.proofs.Feeds.{goes_seeing, last_shown, replayed_last, state_shown, at_err}
use Rattle.api_desk.proofs.hub_feed.answer_state.Goals as goal

pub state_reply-requires : goal.state_reply-requires
state_reply-requires g c =
    let front = c.read.new.self.front in
    subst IsShownMoment (sym (c.in_ok-last.ensures.read ∙ replayed_last front c.map_law.ensures.legal)) (last_shown front c.map_law.ensures.legal)

pub returns-clause-ok : goal.returns-clause-ok
returns-clause-ok g c =
    state_shown
    c.args.session.now
    c.read.new.self
    c.seen.result
    c.in_ok-last.last
    c.state_reply.result
    (goes_seeing c.args.session.now c.read.new.self c.in_ok-last.ensures.begins c.in_ok-last.ensures.same)
    c.seen.ensures
    (c.in_ok-last.ensures.read ∙ replayed_last c.read.new.self.front c.map_law.ensures.legal)
    c.state_reply.ensures.reply

pub returns-clause-err : goal.returns-clause-err
returns-clause-err g c =
    at_err c.state_reply.result _ (goes_seeing c.args.session.now c.read.new.self c.in_ok-last.ensures.begins c.in_ok-last.ensures.same)

pub returns-in_err-last-clause-err : goal.returns-in_err-last-clause-err
returns-in_err-last-clause-err g c =
    at_err c.from_residual.result _ (goes_seeing c.args.session.now c.read.new.self c.in_err-last.ensures.begins c.in_err-last.ensures.same)
