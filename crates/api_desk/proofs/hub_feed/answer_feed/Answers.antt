use Rattle.api_desk.specs.declared.feed.FeedCall.TheVariants as feed
use Rattle.api_desk.proofs.Feeds.{feed_replied}
use Rattle.api_desk.proofs.hub_feed.answer_feed.Goals as goal

pub returns-in-State-clause-answers : goal.returns-in-State-clause-answers
returns-in-State-clause-answers g c users message moment asks =
    feed_replied users c.args.session.now c.answer_state.new.session message moment feed.State c.answer_state.result (rw c.in-State.is at asks) c.answer_state.ensures.ok c.answer_state.ensures.err

pub returns-in-Piece-clause-answers : goal.returns-in-Piece-clause-answers
returns-in-Piece-clause-answers g c users message moment asks =
    feed_replied users c.args.session.now c.answer_piece.new.session message moment (feed.Piece c.in-Piece.number) c.answer_piece.result (rw c.in-Piece.is at asks) c.answer_piece.ensures.ok c.answer_piece.ensures.err
