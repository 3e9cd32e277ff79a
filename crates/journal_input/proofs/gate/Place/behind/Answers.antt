use Rattle.journal_input.proofs.Places.{sees_more}
use Rattle.journal_input.proofs.gate.Place.behind.Goals as goal

pub loop-byte-preserved : goal.loop-byte-preserved
loop-byte-preserved c =
    λ text sees. sees_more c.loop-byte.place c.next-place.result text c.args.piece.now c.loop-byte.byte-index c.loop-byte-test.true (c.loop-byte.invariant text sees) c.next-place.ensures
