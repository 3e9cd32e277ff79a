use Rattle.std.proofs.Common.{append-nil}
use Rattle.notes_core.proofs.answers.write_whole.Goals as goal

pub returns : goal.returns
returns c = simp (append-nil, c.head_of.ensures.id, c.head_of.ensures.at, c.head_of.ensures.created, c.head_of.ensures.closed) at c.write_note.ensures
