use Rattle.replication_feed.proofs.Replayed.{are_pieces, have_texts, gives_pieces, gives_entries, gives_state}
use Rattle.replication_feed.proofs.law.pieces_replay.Goals as goal

pub returns : goal.returns
returns c =
    let tell = c.texts_tell_pieces.ensures in
    record { pieces = are_pieces; texts = have_texts; read = gives_pieces tell; entries = gives_entries tell; replay = gives_state tell }
