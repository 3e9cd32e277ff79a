use Rattle.api_desk.proofs.HubReplies.{tells_read, tells_nothing}
use Rattle.api_desk.proofs.hub_desk.reply_told.Goals as goal

pub returns-in-Ok-clause-tells : goal.returns-in-Ok-clause-tells
returns-in-Ok-clause-tells c = rw c.in-Ok.is (tells_read c.in-Ok.bytes c.reply_from.result c.reply_from.ensures.reply)

pub returns-in-Err-clause-tells : goal.returns-in-Err-clause-tells
returns-in-Err-clause-tells c = rw c.in-Err.is tells_nothing
