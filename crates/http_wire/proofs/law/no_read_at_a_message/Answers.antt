use Rattle.http_wire.proofs.EndLemmas.{not_unfinished}
use Rattle.http_wire.proofs.law.no_read_at_a_message.Goals as goal

pub returns : goal.returns
returns c = not_unfinished
