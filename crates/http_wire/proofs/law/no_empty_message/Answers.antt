use Rattle.http_wire.proofs.EndLemmas.{BeginsWith-shorter}
use Rattle.http_wire.proofs.law.no_empty_message.Goals as goal

pub returns : goal.returns
returns c = BeginsWith-shorter
