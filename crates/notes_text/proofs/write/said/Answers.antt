use Rattle.notes_text.proofs.write.said.Goals as goal

pub returns : goal.returns
returns c = simp c.as_str.ensures at c.record.ensures
