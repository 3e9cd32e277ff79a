use Rattle.notes_core.specs.Shown.{refusal_data}
use Rattle.notes_core.proofs.send.write_refusal.Goals as goal

pub returns-in-NoteOpen : goal.returns-in-NoteOpen
unfolding refusal_data
returns-in-NoteOpen c = rw c.in-NoteOpen.is c.write_named-in-NoteOpen.ensures
