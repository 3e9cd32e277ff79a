use Rattle.osm_change.specs.declared.refusals.Refusal.TheVariants.{NoPiece}
use Rattle.api_desk.proofs.ReplyBytes.{refusal_said}
use Rattle.api_desk.proofs.feed.piece_reply.Goals as goal

pub returns-in-None-clause-reply : goal.returns-in-None-clause-reply
returns-in-None-clause-reply c = rw c.in-None.is (refusal_said (NoPiece c.args.last c.args.number) c.refusal_reply.result c.refusal_reply.ensures.reply)
