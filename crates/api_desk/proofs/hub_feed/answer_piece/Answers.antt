use Rattle.std.proofs.Common.{◌∙◌}
use Rattle.std.specs.Prelude.{option_copied}
use Rattle.api_desk.proofs.Feeds.{goes_on_of, goes_same, piece_shown, at_err}
use Rattle.api_desk.proofs.hub_feed.answer_piece.Goals as goal

pub returns-clause-ok : goal.returns-clause-ok
returns-clause-ok g c =
    piece_shown
    c.args.session.now
    c.part.new.session
    c.args.number
    c.saturating_sub.result
    c.seen.result
    c.deref.result.now
    (option_copied c.first.result)
    c.piece_reply.result
    (goes_on_of c.args.session.now c.part.new.session c.in_ok-found.ensures.begins c.in_ok-found.ensures.ok)
    c.saturating_sub.ensures
    (c.deref.ensures.value ∙ c.in_ok-found.ensures.part)
    c.first.ensures.value
    c.seen.ensures
    c.piece_reply.ensures.reply

pub returns-clause-err : goal.returns-clause-err
returns-clause-err g c =
    at_err c.piece_reply.result _ (goes_on_of c.args.session.now c.part.new.session c.in_ok-found.ensures.begins c.in_ok-found.ensures.ok)

pub returns-in_err-found-clause-err : goal.returns-in_err-found-clause-err
returns-in_err-found-clause-err g c = at_err c.from_residual.result _ (goes_same c.args.session.now c.part.new.session c.in_err-found.ensures.err)
