use Rattle.std.proofs.Common.{arith}
use Rattle.journal_input.proofs.SoFarLemmas.{filled, nothing_read}
use Rattle.journal_input.proofs.pieces.read_piece.Goals as goal

pub returns-clause-piece : goal.returns-clause-piece
returns-clause-piece g c =
    filled c.read.result _ _ _ (omega (arith, c.requires, c.read.auto.into)) c.read.ensures.count c.read.ensures.trace c.read.ensures.left c.read.ensures.keeps

pub returns-clause-nothing_read : goal.returns-clause-nothing_read
returns-clause-nothing_read g c =
    nothing_read c.read.result _ _ _ c.read.ensures.trace c.read.ensures.left c.read.ensures.keeps
