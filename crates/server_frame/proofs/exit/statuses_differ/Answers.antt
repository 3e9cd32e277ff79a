use Rattle.server_frame.proofs.Exits.{differ}
use Rattle.server_frame.proofs.exit.statuses_differ.Goals as goal

pub returns : goal.returns
returns c one other same = differ one other same
