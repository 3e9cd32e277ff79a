use Rattle.mirror_desk.proofs.Rows.{piece_taken, none_taken}
use Rattle.mirror_desk.proofs.pieces.answer_piece.Goals as goal

pub returns-in-Ok-clause-answers : goal.returns-in-Ok-clause-answers
returns-in-Ok-clause-answers c = λ is_held_back moment.
    piece_taken
    is_held_back
    c.args.follower.now
    moment
    c.args.body.now
    c.in-Ok.piece
    c.take_piece.result
    c.take_piece.new.follower
    c.in-Ok.ensures.text
    c.take_piece.ensures.reply
    c.take_piece.ensures.journal
    c.take_piece.ensures.memory

pub returns-in-Err-NotPiece-clause-answers : goal.returns-in-Err-NotPiece-clause-answers
returns-in-Err-NotPiece-clause-answers c = λ is_held_back moment.
    none_taken is_held_back c.args.follower.now moment c.args.body.now c.not_piece.result (rw c.in-Err-NotPiece.field-0-is at c.in-Err-NotPiece.ensures.all) c.not_piece.ensures.reply
