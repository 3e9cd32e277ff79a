use Rattle.mirror_desk.proofs.requests.followed.Goals as goal

pub returns-in-Piece-clause-gives : goal.returns-in-Piece-clause-gives
returns-in-Piece-clause-gives c = λ body. rw c.in-Piece.is (c.forbidden_to.ensures.gives body)
