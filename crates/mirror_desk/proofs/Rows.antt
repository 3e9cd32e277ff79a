-- What one ask is answered, whatever it comes to.
use Rattle.std.proofs.Common.{◌≡◌, ℕ, Bool, true, false, ◌+◌, List, [], ◌∷◌, ◌++◌, length, Option, Some, None, Result, Ok, Err, ◌⊎◌, inl, inr, ⊎_elim, refl, sym, ap, subst}
use Rattle.std.specs.Prelude.{◌&&◌, not, IfOk, OnOk, OnErr}
use Rattle.osm_base.specs.declared.memory.Memory.{Memory}
use Rattle.osm_model.specs.Ask.{ask}
use Rattle.osm_model.specs.Journal.{IsLegal, replay}
use Rattle.osm_model.specs.declared.commands.Entry.{Entry}
use Rattle.osm_model.specs.declared.queries.Query.{Query}
use Rattle.osm_change.specs.declared.answers.Answer.TheVariants.{Refused}
use Rattle.http_wire.specs.declared.message.Message.{Message}
use Rattle.http_link.specs.declared.desk.Reply.{Reply}
use Rattle.http_link.specs.Desk.{counted_reply}
use Rattle.user_table.specs.Users.{Users}
use Rattle.replication_feed.specs.Piece.{IsPieceText}
use Rattle.replication_feed.specs.declared.pieces.Piece.{Piece}
use Rattle.journal_follower.specs.Taken.{taken, after, after_call, kept_with}
use Rattle.journal_follower.specs.declared.answers.Taken.{Taken}
use Rattle.journal_follower.specs.declared.answers.Taken.TheVariants.{Folded, Old, Differs, Gap, Illegal}
use Rattle.api_desk.specs.Feed.{says, Told as ServerTold}
use Rattle.api_desk.specs.Gives.{TellsFault}
use Rattle.desk_parts.specs.declared.faults.RequestFault.{RequestFault}
use Rattle.desk_parts.specs.declared.faults.RequestFault.TheVariants as fault
use Rattle.mirror_desk.specs.Answers.{Told, as_server, not_piece, not_level, took, reply_of, TellsRead, TellsReadAt, Tells, IsRow, HasOneMore, MirrorAnswers, MirrorAnswersAt, AnswersAsk}
use Rattle.mirror_desk.specs.Gives.{GivesAsk}
use Rattle.mirror_desk.specs.Level.{AtLevel, holds_back, is_level, level_after}
use Rattle.mirror_desk.specs.Request.{Ask, refuses, forbids, reads, states, takes, levels, request_of}
use Rattle.mirror_desk.specs.declared.setting.MirrorSetting.{MirrorSetting}

-- ---- what entries are left

kept_grows : (came : Taken) (kept : List Entry) (e : Entry) → (kept_with came kept e ≡ kept) ⊎ HasOneMore kept (kept_with came kept e)
kept_grows Folded kept e = inr (record { entry = e; is = refl })
kept_grows Old kept e = inl refl
kept_grows Differs kept e = inl refl
kept_grows (Gap next) kept e = inl refl
kept_grows Illegal kept e = inl refl

row_grows : (tells_read : ServerTold → Told → Type 0) (old : List Entry) (moment : ℕ) (asked : Ask) (told : Option Told) (new : List Entry) → IsRow tells_read old moment asked told new → (new ≡ old) ⊎ HasOneMore old new
row_grows tells_read old moment asked None new row = inl row
row_grows tells_read old moment (refuses r) (Some told) new row = inl row.1
row_grows tells_read old moment forbids (Some told) new row = inl row.1
row_grows tells_read old moment (reads q) (Some told) new row = inl row.1
row_grows tells_read old moment states (Some told) new row = inl row.1
row_grows tells_read old moment levels (Some told) new row = inl row.1
row_grows tells_read old moment (takes body) (Some told) new row =
    ⊎_elim
    (λ takes. subst (λ (kept : List Entry). (kept ≡ old) ⊎ HasOneMore old kept) (sym takes.comes_to) (kept_grows (taken old takes.piece) old takes.piece.entry))
    (λ takes. inl takes.stays)
    row

-- a message was answered as what it asks was
pub message_answered :
    (users : Users) (is_held_back : Bool) (old : List Entry) (message : Message) (moment : ℕ) (reply : Reply) (new : List Entry)
    → AnswersAsk is_held_back old moment (request_of users message) reply new
    → IsLegal new
    → MirrorAnswersAt users is_held_back old message moment reply new
message_answered users is_held_back old message moment reply new answers legal = record {
  told = answers.told;
  row = answers.row;
  text = answers.text;
  grown = row_grows (TellsReadAt is_held_back) old moment (request_of users message) answers.told new answers.row;
  legal = λ was. legal;
}

-- ---- what changes no entry

lacking : (is_held_back : Bool) (old : List Entry) (moment : ℕ) (asked : Ask) → AnswersAsk is_held_back old moment asked (reply_of None) old
lacking is_held_back old moment asked = record { told = None; row = refl; text = refl }

pub told_on :
    (is_held_back : Bool) (old : List Entry) (moment : ℕ) (asked : Ask) (told : Told) (result : Result Reply Memory)
    → Tells (TellsReadAt is_held_back) old moment asked told old
    → IfOk result (λ reply. reply ≡ reply_of (Some told))
    → AnswersAsk is_held_back old moment asked (counted_reply result) old
told_on is_held_back old moment asked told (Ok reply) tells text = record { told = Some told; row = tells; text = text }
told_on is_held_back old moment asked told (Err memory) tells text = lacking is_held_back old moment asked

pub refused_on :
    (is_held_back : Bool) (old : List Entry) (moment : ℕ) (asked : Ask) (body : List ℕ) (cause : RequestFault) (result : Result Reply Memory)
    → GivesAsk asked body (Err cause)
    → TellsFault cause result
    → AnswersAsk is_held_back old moment asked (counted_reply result) old
refused_on is_held_back old moment asked body cause (Err memory) gives tells = lacking is_held_back old moment asked
refused_on is_held_back old moment asked body fault.Memory (Ok reply) gives tells = absurd tells
refused_on is_held_back old moment asked body (fault.Refused r) (Ok reply) gives tells =
    subst (λ (it : Ask). AnswersAsk is_held_back old moment it reply old) (sym gives) (record { told = Some (as_server (says (Refused r))); row = (refl, refl); text = tells })

-- ---- pieces

pub piece_taken :
    (is_held_back : Bool) (old : List Entry) (moment : ℕ) (body : List ℕ) (piece : Piece) (result : Result Reply Memory) (new : List Entry)
    → IsPieceText body piece
    → IfOk result (λ reply. reply ≡ reply_of (Some (took piece.number (length new + 1) (taken old piece))))
    → OnOk result (new ≡ after old piece)
    → OnErr result (new ≡ old)
    → AnswersAsk is_held_back old moment (takes body) (counted_reply result) new
piece_taken is_held_back old moment body piece (Ok reply) new is tells comes_to stays = record {
  told = Some (took piece.number (length new + 1) (taken old piece));
  row = inl (record { piece = piece; is = is; told_is = refl; comes_to = comes_to });
  text = tells;
}
piece_taken is_held_back old moment body piece (Err memory) new is tells comes_to stays = record { told = None; row = stays; text = refl }

pub none_taken :
    (is_held_back : Bool) (old : List Entry) (moment : ℕ) (body : List ℕ) (result : Result Reply Memory)
    → ((piece : Piece) → IsPieceText body piece → ⊥)
    → IfOk result (λ reply. reply ≡ reply_of (Some not_piece))
    → AnswersAsk is_held_back old moment (takes body) (counted_reply result) old
none_taken is_held_back old moment body result none = told_on is_held_back old moment (takes body) not_piece result (inr (record { none = none; told_is = refl; stays = refl }))

-- ---- reads, and who is heard

-- a read that is held back is told so
pub held_back :
    (is_held_back : Bool) (old : List Entry) (moment : ℕ) (q : Query) (result : Result Reply Memory)
    → is_held_back ≡ true
    → IfOk result (λ reply. reply ≡ reply_of (Some not_level))
    → AnswersAsk is_held_back old moment (reads q) (counted_reply result) old
held_back is_held_back old moment q result is text =
    subst
    (λ (b : Bool). AnswersAsk b old moment (reads q) (counted_reply result) old)
    (sym is)
    (told_on true old moment (reads q) not_level result (refl, refl) text)

-- and one that isn't is answered
pub answered :
    (is_held_back : Bool) (old : List Entry) (moment : ℕ) (q : Query) (result : Result Reply Memory)
    → is_held_back ≡ false
    → IfOk result (λ reply. reply ≡ reply_of (Some (as_server (says (ask (replay old) moment q)))))
    → AnswersAsk is_held_back old moment (reads q) (counted_reply result) old
answered is_held_back old moment q result is text =
    subst
    (λ (b : Bool). AnswersAsk b old moment (reads q) (counted_reply result) old)
    (sym is)
    (told_on false old moment (reads q) (as_server (says (ask (replay old) moment q))) result (refl, refl) text)

-- reads are held back only where they may be
may_hold : (only_level held : Bool) (answer : ServerTold) (told : Told) → TellsReadAt (only_level && held) answer told → TellsRead only_level answer told
may_hold false held answer told tells = tells
may_hold true false answer told tells = inl tells
may_hold true true answer told tells = inr tells

row_may : (only_level held : Bool) (old : List Entry) (moment : ℕ) (asked : Ask) (told : Option Told) (new : List Entry)
    → IsRow (TellsReadAt (only_level && held)) old moment asked told new → IsRow (TellsRead only_level) old moment asked told new
row_may only_level held old moment asked None new row = row
row_may only_level held old moment (refuses r) (Some told) new row = row
row_may only_level held old moment forbids (Some told) new row = row
row_may only_level held old moment (reads q) (Some told) new row = (may_hold only_level held (says (ask (replay old) moment q)) told row.0, row.1)
row_may only_level held old moment states (Some told) new row = row
row_may only_level held old moment (takes body) (Some told) new row = row
row_may only_level held old moment levels (Some told) new row = row

pub answers_may :
    (setting : MirrorSetting) (level : AtLevel) (old : List Entry) (message : Message) (moment : ℕ) (reply : Reply) (new : List Entry)
    → MirrorAnswersAt setting.users (holds_back setting.only_level level moment) old message moment reply new
    → MirrorAnswers setting old message moment reply new
answers_may setting level old message moment reply new answers = record {
  told = answers.told;
  row = row_may setting.only_level (not (is_level level moment)) old moment (request_of setting.users message) answers.told new answers.row;
  text = answers.text;
  grown = answers.grown;
  legal = answers.legal;
}

-- nobody is heard by what is refused
pub none_heard :
    (asked : Ask) (body : List ℕ) (cause : RequestFault) (result : Result Reply Memory) (level : AtLevel) (moment : ℕ)
    → GivesAsk asked body (Err cause)
    → TellsFault cause result
    → OnOk result (level ≡ level_after asked level moment)
none_heard asked body cause (Err memory) level moment gives tells = tt
none_heard asked body fault.Memory (Ok reply) level moment gives tells = absurd tells
none_heard asked body (fault.Refused r) (Ok reply) level moment gives tells = sym (ap (λ (it : Ask). level_after it level moment) gives)
