use Rattle.notes_desk.proofs.desk.NotesDeskDesk.answer.Given as goal

abbrev pub ghosts-answer_on : goal.ghosts-answer_on
ghosts-answer_on g a = record { name = a.blank.name; parts = a.blank.parts }
