use Rattle.mirror_desk.proofs.answers.answer_mirrored.Given as goal

abbrev pub ghosts-answer_on : goal.ghosts-answer_on
ghosts-answer_on a = record { name = a.blank.name; parts = a.blank.parts }
