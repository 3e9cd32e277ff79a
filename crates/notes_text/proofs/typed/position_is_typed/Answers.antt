use Rattle.notes_text.proofs.typed.position_is_typed.Goals as goal

pub returns : goal.returns
returns c = (rw c.at.ensures at c.area-area.ensures.edges).first
