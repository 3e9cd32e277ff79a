-- What is kept and told, at the rows of notes.
use Rattle.notes_desk.specs.Desk.{note_row, note_rows_stay}
use Rattle.desk_serve.proofs.KeptJoined.{KeptChain, KeptStay}
use Rattle.kept_desk.proofs.Told.{links_told, told_stay}

-- what one link and then another told by the same session is told together
pub kept_chain : KeptChain note_row
kept_chain = links_told note_row note_rows_stay

-- what was told on a front stands on each longer one, with more receipts
pub kept_longer : KeptStay note_row
kept_longer = told_stay note_row note_rows_stay
