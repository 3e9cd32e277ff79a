use Rattle.http_wire.proofs.PieceLemmas.{message_in_any_pieces}
use Rattle.http_wire.proofs.law.message_in_any_pieces.Goals as goal

pub returns : goal.returns
returns c = message_in_any_pieces
