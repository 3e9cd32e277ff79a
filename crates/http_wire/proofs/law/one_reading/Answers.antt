use Rattle.http_wire.proofs.EndLemmas.{one_reading_of}
use Rattle.http_wire.proofs.law.one_reading.Goals as goal

pub returns : goal.returns
returns c = one_reading_of
