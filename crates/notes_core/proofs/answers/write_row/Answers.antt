use Rattle.notes_core.proofs.Sent.{nothing_sent}
use Rattle.notes_core.proofs.answers.write_row.Goals as goal

pub returns-in-None : goal.returns-in-None
returns-in-None c = rw c.in-None.ensures nothing_sent
