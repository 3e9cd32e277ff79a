use Rattle.http_link.proofs.OrderLemmas.{clock_is_read_between}
use Rattle.http_link.proofs.law.clock_is_read_between.Goals as goal

pub returns : goal.returns
returns c = clock_is_read_between
