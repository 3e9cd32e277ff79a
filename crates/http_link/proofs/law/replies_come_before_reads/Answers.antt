use Rattle.http_link.proofs.OrderLemmas.{replies_come_before_reads}
use Rattle.http_link.proofs.law.replies_come_before_reads.Goals as goal

pub returns : goal.returns
returns c = replies_come_before_reads
