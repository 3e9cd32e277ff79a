use Rattle.http_wire.proofs.EndLemmas.{one_end_of}
use Rattle.http_wire.proofs.law.one_end.Goals as goal

pub returns : goal.returns
returns c = one_end_of
