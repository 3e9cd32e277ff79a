use Rattle.notes_desk.proofs.desk.answer_bytes.Goals as goal

pub returns-in-Change : goal.returns-in-Change
returns-in-Change g c = rw c.in-Change.is c.command_bytes.ensures
