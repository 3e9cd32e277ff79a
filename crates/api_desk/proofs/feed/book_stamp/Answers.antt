use Rattle.std.proofs.Common.{ap, ◌∙◌}
use Rattle.osm_model.specs.declared.states.State.{State}
use Rattle.api_desk.proofs.Feeds.{replayed_last}
use Rattle.api_desk.proofs.feed.book_stamp.Goals as goal

pub returns : goal.returns
returns c = c.read.ensures ∙ ap (λ (P : State). P.last) c.world.ensures.world ∙ replayed_last c.args.book.now c.book_law.ensures.taken
