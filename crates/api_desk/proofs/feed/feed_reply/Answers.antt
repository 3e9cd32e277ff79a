use Rattle.std.proofs.Common.{◌≡◌, ◌-◌, ◌∙◌, ap, length, sym, subst}
use Rattle.std.specs.Prelude.{option_copied, slice_get}
use Rattle.osm_change.specs.Moments.{IsShownMoment}
use Rattle.api_desk.proofs.Feeds.{last_shown, piece_alone, piece_found}
use Rattle.api_desk.proofs.feed.feed_reply.Goals as goal

pub state_reply-requires : goal.state_reply-requires
state_reply-requires c = subst IsShownMoment (sym c.book_stamp.ensures) (last_shown c.args.book.now c.book_law.ensures.taken)

pub returns-in_ok-found-in-Piece-clause-reply : goal.returns-in_ok-found-in-Piece-clause-reply
returns-in_ok-found-in-Piece-clause-reply c =
    let es = c.args.book.now in
    let number = c.in-Piece.number in
    let part = c.deref.ensures.value ∙ (rw c.journal-journal.ensures.journal at c.in_ok-found-in-Piece.ensures) in
    let found : option_copied c.first.result ≡ slice_get es (number - 1) = piece_found es c.deref.result.now number c.saturating_sub.result (option_copied c.first.result) c.saturating_sub.ensures part c.first.ensures.value in
    let count : c.len-length.result ≡ length es = c.len-length.ensures.length ∙ ap length c.journal-journal.ensures.journal in
    rw c.in-Piece.is (piece_alone es number c.len-length.result (option_copied c.first.result) c.piece_reply.result count found c.piece_reply.ensures.reply)
