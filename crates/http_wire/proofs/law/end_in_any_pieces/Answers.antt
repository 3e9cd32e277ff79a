use Rattle.http_wire.proofs.PieceLemmas.{end_in_any_pieces}
use Rattle.http_wire.proofs.law.end_in_any_pieces.Goals as goal

pub returns : goal.returns
returns c = end_in_any_pieces
