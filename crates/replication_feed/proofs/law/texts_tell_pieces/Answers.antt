use Rattle.replication_feed.proofs.Told.{piece_told}
use Rattle.replication_feed.proofs.law.texts_tell_pieces.Goals as goal

pub returns : goal.returns
returns c = piece_told c.lines_tell_entries.ensures
