use Rattle.notes_core.specs.Act.{open_note, commentable_note, reopenable_note}
use Rattle.notes_core.specs.World.{state_of}
use Rattle.notes_core.proofs.Judged.{judged_by}
use Rattle.notes_core.proofs.worlds.NotesWorld.judge.Goals as goal

pub returns-in-Comment-clause-value : goal.returns-in-Comment-clause-value
returns-in-Comment-clause-value c = λ caller t.
    rw c.in-Comment.is (judged_by c.takes_comment.result (commentable_note (state_of c.args.self.now) c.in-Comment.id) _ c.takes_comment.ensures.value)

pub returns-in-CloseNote-clause-value : goal.returns-in-CloseNote-clause-value
returns-in-CloseNote-clause-value c = λ caller t.
    rw c.in-CloseNote.is (judged_by c.takes_closing.result (open_note (state_of c.args.self.now) c.in-CloseNote.id) _ c.takes_closing.ensures.value)

pub returns-in-Reopen-clause-value : goal.returns-in-Reopen-clause-value
returns-in-Reopen-clause-value c = λ caller t.
    rw c.in-Reopen.is (judged_by c.takes_reopening.result (reopenable_note (state_of c.args.self.now) c.in-Reopen.id) _ c.takes_reopening.ensures.value)
