use Rattle.http_wire.proofs.EndLemmas.{no_end_at}
use Rattle.http_wire.proofs.law.no_end_at_a_message.Goals as goal

pub returns : goal.returns
returns c = no_end_at
