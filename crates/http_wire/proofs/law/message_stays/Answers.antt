use Rattle.http_wire.proofs.EndLemmas.{BeginsWith-append}
use Rattle.http_wire.proofs.law.message_stays.Goals as goal

pub returns : goal.returns
returns c = BeginsWith-append
