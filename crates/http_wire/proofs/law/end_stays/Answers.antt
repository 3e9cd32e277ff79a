use Rattle.http_wire.proofs.EndLemmas.{EndsAs-append}
use Rattle.http_wire.proofs.law.end_stays.Goals as goal

pub returns : goal.returns
returns c = EndsAs-append
