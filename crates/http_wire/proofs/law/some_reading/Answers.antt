use Rattle.http_wire.proofs.ReadingLemmas.{some_reading}
use Rattle.http_wire.proofs.law.some_reading.Goals as goal

pub returns : goal.returns
returns c = some_reading
