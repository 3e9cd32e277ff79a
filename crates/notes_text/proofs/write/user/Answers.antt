use Rattle.notes_text.specs.Line.{user}
use Rattle.notes_text.proofs.write.user.Goals as goal

pub returns : goal.returns
unfolding user
returns c = simp c.as_str.ensures at c.record.ensures
