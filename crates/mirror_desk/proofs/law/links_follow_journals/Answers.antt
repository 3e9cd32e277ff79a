use Rattle.mirror_desk.proofs.Feeds.{follows, reaches_piece}
use Rattle.mirror_desk.proofs.law.links_follow_journals.Goals as goal

pub returns-clause-keeps : goal.returns-clause-keeps
returns-clause-keeps c =
    λ setting journal old exchanges new legal feed.
    follows c.texts_tell_pieces.ensures journal (c.pieces_replay.ensures.pieces journal feed)
    (λ kept calls. c.feeds_are_followed.ensures.prefix journal kept calls)
    (λ kept calls. c.feeds_are_followed.ensures.agrees journal kept calls legal)
    setting old exchanges new

pub returns-clause-reaches : goal.returns-clause-reaches
returns-clause-reaches c =
    λ setting journal old exchanges new legal feed.
    reaches_piece c.texts_tell_pieces.ensures journal (c.pieces_replay.ensures.pieces journal feed)
    (λ n m calls. c.feeds_are_followed.ensures.reaches journal n m calls legal)
    setting old exchanges new
