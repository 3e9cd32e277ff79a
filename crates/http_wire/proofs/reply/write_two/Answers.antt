use Rattle.http_wire.proofs.WrittenLemmas.{Writes-two}
use Rattle.http_wire.proofs.reply.write_two.Goals as goal

pub returns-clause-writes : goal.returns-clause-writes
returns-clause-writes g c =
    Writes-two _ _ _ _ _ c.write_all-2.result c.in_ok-write_all.ensures.writes c.write_all-2.ensures.writes
