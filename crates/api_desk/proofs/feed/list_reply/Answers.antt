use Rattle.api_desk.proofs.Feeds.{last_shown}
use Rattle.osm_change.specs.Moments.{IsShownMoment}
use Rattle.std.proofs.Common.{sym, subst}
use Rattle.api_desk.proofs.feed.list_reply.Goals as goal

pub state_reply-requires : goal.state_reply-requires
state_reply-requires c = subst IsShownMoment (sym c.last_stamp.ensures) (last_shown c.args.journal.now c.requires.taken)
