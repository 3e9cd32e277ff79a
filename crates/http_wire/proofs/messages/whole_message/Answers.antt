use Rattle.std.proofs.Common.{Err, ap, arith}
use Rattle.http_wire.proofs.messages.whole_message.Goals as goal

pub end_of_bytes-requires : goal.end_of_bytes-requires
end_of_bytes-requires c = λ is. omega (arith, c.in-Err.ensures.fault (ap Err is))

pub returns : goal.returns
returns c =
    let told = c.in_ok-end_of_bytes-in-Err.ensures in
    let reads = rw (c.in_ok-wire.ensures.kept, c.in_ok-wire.ensures.body_limit) at c.in-Err.ensures.reads in
    (c.in-Err.why, told, c.end_in_any_pieces.ensures _ _ _ _ _ c.args.bytes c.in-Err.why c.in_ok-source.ensures told reads)
