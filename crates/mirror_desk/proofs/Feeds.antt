-- A link on which pieces of one journal are posted.
use Rattle.std.proofs.Common.{◌≡◌, ℕ, ◌+◌, ◌-◌, ◌≤◌, List, [], ◌∷◌, length, take, drop, Option, Some, None, Ok, ◌⊎◌, inl, inr, ⊎_elim, refl, sym, ap, ◌∙◌, subst}
use Rattle.std.specs.Prelude.{All, Contains, IsOk, map, slice_range}
use Rattle.std.proofs.lemmas.List.Elements.{All-cons, All-contains, All-drop, All-head, All-nil, All-tail, All-take}
use mathlib.Core.List.{IsPrefix}
use Rattle.osm_model.specs.declared.commands.Entry.{Entry}
use Rattle.http_link.specs.declared.desk.Reply.{Reply}
use Rattle.http_link.specs.Exchange.{Exchange, Chain}
use Rattle.user_table.specs.Users.{Users}
use Rattle.replication_feed.specs.Piece.{pieces, IsPiece, IsPieceText}
use Rattle.replication_feed.specs.Text.{text_of}
use Rattle.replication_feed.specs.declared.pieces.Piece.{Piece}
use Rattle.journal_follower.specs.Calls.{Call, AreCalls, AreOf, Agrees, after_all}
use Rattle.journal_follower.specs.Taken.{taken, after}
use Rattle.api_desk.specs.Feed.{Told as ServerTold}
use Rattle.mirror_desk.specs.Answers.{Told, took, reply_of, TakesPiece, TakesNone, TellsRead, IsRow, MirrorAnswers}
use Rattle.mirror_desk.specs.Desk.{MirrorHasServed}
use Rattle.mirror_desk.specs.Feeds.{IsOfJournal, AsksOf, PostsOf, ArePosted, IsToldAgreeing, FollowsJournal}
use Rattle.mirror_desk.specs.Request.{Ask, refuses, forbids, reads, states, takes, levels, request_of}
use Rattle.mirror_desk.specs.declared.setting.MirrorSetting.{MirrorSetting}

abbrev call : List Entry → Piece → Call
call kept p = record { piece = p; came = Ok (taken kept p) }

-- the piece that a text is, where it is told
taken_is : ((text : List ℕ) (p other : Piece) → IsPieceText text p → IsPieceText text other → p ≡ other)
    → (old : List Entry) (body : List ℕ) (told : Told) (new : List Entry) (p : Piece) → IsPieceText body p
    → TakesPiece old body told new ⊎ TakesNone old body told new
    → (new ≡ after old p) × (told ≡ took p.number (length new + 1) (taken old p))
taken_is tell old body told new p is row = ⊎_elim taken_so (λ n. absurd (n.none p is)) row
  where
    taken_so : TakesPiece old body told new → (new ≡ after old p) × (told ≡ took p.number (length new + 1) (taken old p))
    taken_so t =
        let same = tell body t.piece p t.is is in
        (t.comes_to ∙ ap (after old) same, t.told_is ∙ ap (λ (q : Piece). took q.number (length new + 1) (taken old q)) same)

module _ (tell : (text : List ℕ) (p other : Piece) → IsPieceText text p → IsPieceText text other → p ≡ other) (journal : List Entry) (typed : All IsPiece (pieces journal)) where
  its_text : (body : List ℕ) (of : IsOfJournal journal body) → IsPieceText body of.piece
  its_text body of = record { typed = All-contains IsPiece (pieces journal) of.piece typed of.among; is = of.is }

  module _
      (prefix : (kept : List Entry) (calls : List Call) → IsPrefix kept journal → AreOf journal calls → IsPrefix (after_all kept calls) journal)
      (agrees : (kept : List Entry) (calls : List Call) → IsPrefix kept journal → AreOf journal calls → AreCalls kept calls → All (λ c. Agrees c.came) calls)
    where
      one : (kept : List Entry) (p : Piece) → Contains (pieces journal) p → AreOf journal (call kept p ∷ [])
      one kept p among = let P : Call → Type 0 = λ c. Contains (pieces journal) c.piece in All-cons P (call kept p) [] among (All-nil P)

      -- ---- one message

      still : (old new : List Entry) → IsPrefix old journal → new ≡ old → IsPrefix new journal
      still old new begins same = subst (λ (es : List Entry). IsPrefix es journal) (sym same) begins

      row_prefix : (tells_read : ServerTold → Told → Type 0) (old : List Entry) (moment : ℕ) (asked : Ask) (told : Option Told) (new : List Entry) → IsPrefix old journal → AsksOf journal asked → IsRow tells_read old moment asked told new → IsPrefix new journal
      row_prefix tells_read old moment asked None new begins of row = still old new begins row
      row_prefix tells_read old moment (refuses r) (Some told) new begins of row = still old new begins row.1
      row_prefix tells_read old moment forbids (Some told) new begins of row = still old new begins row.1
      row_prefix tells_read old moment (reads q) (Some told) new begins of row = still old new begins row.1
      row_prefix tells_read old moment states (Some told) new begins of row = still old new begins row.1
      row_prefix tells_read old moment levels (Some told) new begins of row = still old new begins row.1
      row_prefix tells_read old moment (takes body) (Some told) new begins of row =
          let came = taken_is tell old body told new of.piece (its_text body of) row in
          subst (λ (es : List Entry). IsPrefix es journal) (sym came.0) (prefix old (call old of.piece ∷ []) begins (one old of.piece of.among))

      row_agrees : (tells_read : ServerTold → Told → Type 0) (old : List Entry) (moment : ℕ) (asked : Ask) (told : Option Told) (new : List Entry) (reply : Reply) → IsPrefix old journal → AsksOf journal asked → IsRow tells_read old moment asked told new → reply ≡ reply_of told
          → IsToldAgreeing journal asked reply
      row_agrees tells_read old moment (refuses r) told new reply begins of row is = tt
      row_agrees tells_read old moment forbids told new reply begins of row is = tt
      row_agrees tells_read old moment (reads q) told new reply begins of row is = tt
      row_agrees tells_read old moment states told new reply begins of row is = tt
      row_agrees tells_read old moment levels told new reply begins of row is = tt
      row_agrees tells_read old moment (takes body) None new reply begins of row is = (of, inr is)
      row_agrees tells_read old moment (takes body) (Some told) new reply begins of row is =
          let p = of.piece in
          let came = taken_is tell old body told new p (its_text body of) row in (
            of,
            inl (record {
              next = length new + 1;
              came = taken old p;
              agrees = All-head (λ (c : Call). Agrees c.came) (call old p) [] (agrees old (call old p ∷ []) begins (one old p of.among) (refl, tt));
              is = is ∙ ap (λ (t : Told). reply_of (Some t)) came.1;
            }),
          )

      -- ---- a link

      abbrev Asks : Users → Exchange → Type 0
      Asks users e = AsksOf journal (request_of users e.message)

      abbrev Tells : Users → Exchange → Type 0
      Tells users e = IsToldAgreeing journal (request_of users e.message) e.answer

      chain_keeps : (setting : MirrorSetting) (old : List Entry) (exchanges : List Exchange) (new : List Entry) → IsPrefix old journal → PostsOf setting.users journal exchanges → Chain (MirrorAnswers setting) old exchanges new
          → IsPrefix new journal × All (Tells setting.users) exchanges
      chain_keeps setting old [] new begins of same = (still old new begins same, All-nil (Tells setting.users))
      chain_keeps setting old (e ∷ es) new begins of chain =
          let users = setting.users in
          let tells_read = TellsRead setting.only_level in
          let answers = chain.1 in
          let asks = All-head (Asks users) e es of in
          let asked = request_of users e.message in
          let mid = row_prefix tells_read old e.moment asked answers.told chain.0 begins asks answers.row in
          let more = chain_keeps setting chain.0 es new mid (All-tail (Asks users) e es of) chain.2 in
          (more.0, All-cons (Tells users) e es (row_agrees tells_read old e.moment asked answers.told chain.0 e.answer begins asks answers.row answers.text) more.1)

      pub follows : (setting : MirrorSetting) (old : List Entry) (exchanges : List Exchange) (new : List Entry) → IsPrefix old journal → PostsOf setting.users journal exchanges → MirrorHasServed setting old exchanges new
          → FollowsJournal setting.users journal old exchanges new
      follows setting old exchanges new begins of served =
          let kept = chain_keeps setting old exchanges new begins of served.answered in
          record { prefix = kept.0; grows = (served.more, sym served.grown); agrees = kept.1 }

-- ---- pieces in their order

-- the calls that took the pieces
record Took (old : List Entry) (ps : List Piece) (new : List Entry) : Type 0 where
  calls : List Call
  pieces_are : map (λ c. c.piece) calls ≡ ps
  came : All (λ c. IsOk c.came) calls
  comes_to : after_all old calls ≡ new

abbrev Came : Call → Type 0
Came c = IsOk c.came

row_took : ((text : List ℕ) (p other : Piece) → IsPieceText text p → IsPieceText text other → p ≡ other)
    → (tells_read : ServerTold → Told → Type 0) (old : List Entry) (moment : ℕ) (p : Piece) (told : Option Told) (new : List Entry) (reply : Reply) → IsPiece p → IsRow tells_read old moment (takes (text_of p)) told new → reply ≡ reply_of told → (reply ≡ reply_of None → ⊥)
    → new ≡ after old p
row_took tell tells_read old moment p None new reply typed row is some = absurd (some is)
row_took tell tells_read old moment p (Some told) new reply typed row is some = (taken_is tell old (text_of p) told new p (record { typed = typed; is = refl }) row).0

chain_took : ((text : List ℕ) (p other : Piece) → IsPieceText text p → IsPieceText text other → p ≡ other)
    → (setting : MirrorSetting) (old : List Entry) (exchanges : List Exchange) (ps : List Piece) (new : List Entry) → All IsPiece ps → ArePosted setting.users exchanges ps → Chain (MirrorAnswers setting) old exchanges new → Took old ps new
chain_took tell setting old [] [] new typed posted same = record { calls = []; pieces_are = refl; came = All-nil Came; comes_to = sym same }
chain_took tell setting old [] (p ∷ ps) new typed posted chain = absurd posted
chain_took tell setting old (e ∷ es) [] new typed posted chain = absurd posted
chain_took tell setting old (e ∷ es) (p ∷ ps) new typed posted chain =
    let answers = chain.1 in
    let row = subst (λ (asked : Ask). IsRow (TellsRead setting.only_level) old e.moment asked answers.told chain.0) posted.0 answers.row in
    let step = row_took tell (TellsRead setting.only_level) old e.moment p answers.told chain.0 e.answer (All-head IsPiece p ps typed) row answers.text posted.1 in
    let more = chain_took tell setting chain.0 es ps new (All-tail IsPiece p ps typed) posted.2 chain.2 in
    record {
      calls = call old p ∷ more.calls;
      pieces_are = ap (λ (qs : List Piece). p ∷ qs) more.pieces_are;
      came = All-cons Came (call old p) more.calls refl more.came;
      comes_to = ap (λ (es : List Entry). after_all es more.calls) (sym step) ∙ more.comes_to;
    }

pub reaches_piece : ((text : List ℕ) (p other : Piece) → IsPieceText text p → IsPieceText text other → p ≡ other)
    → (journal : List Entry) → All IsPiece (pieces journal)
    → ((n m : ℕ) (calls : List Call) → n ≤ m → m ≤ length journal → map (λ c. c.piece) calls ≡ slice_range (pieces journal) n m → All (λ c. IsOk c.came) calls → after_all (take n journal) calls ≡ take m journal)
    → (setting : MirrorSetting) (old : List Entry) (exchanges : List Exchange) (new : List Entry) → MirrorHasServed setting old exchanges new
    → (n m : ℕ) → n ≤ m → m ≤ length journal → old ≡ take n journal → ArePosted setting.users exchanges (slice_range (pieces journal) n m) → new ≡ take m journal
reaches_piece tell journal typed reaches setting old exchanges new served n m before within begins posted =
    let part = All-take IsPiece (m - n) (drop n (pieces journal)) (All-drop IsPiece n (pieces journal) typed) in
    let took = chain_took tell setting old exchanges (slice_range (pieces journal) n m) new part posted served.answered in
    sym took.comes_to ∙ ap (λ (es : List Entry). after_all es took.calls) begins ∙ reaches n m took.calls before within took.pieces_are took.came
