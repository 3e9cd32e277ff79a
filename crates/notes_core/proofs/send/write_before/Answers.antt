use Rattle.notes_core.proofs.Sent.{nothing_sent}
use Rattle.notes_core.proofs.send.write_before.Goals as goal

pub returns-in-None : goal.returns-in-None
returns-in-None c = rw c.in-None.is nothing_sent
