use Rattle.std.proofs.Common.{sym}
use Rattle.mirror_desk.proofs.requests.asked_by.Goals as goal

pub returns-in-Piece-clause-gives : goal.returns-in-Piece-clause-gives
returns-in-Piece-clause-gives c = λ body. rw c.in-Piece.is (c.piece_from.ensures.gives body)

pub returns-in-Level-clause-gives : goal.returns-in-Level-clause-gives
returns-in-Level-clause-gives c = λ body. rw c.in-Level.is (c.level_from.ensures.gives body)

pub returns-in-Served-clause-gives : goal.returns-in-Served-clause-gives
returns-in-Served-clause-gives c = λ body. rw (c.in-Served.is, sym c.is_moderator.ensures, sym c.task_of-task.ensures.task) (c.asked_by_task.ensures.gives body)
