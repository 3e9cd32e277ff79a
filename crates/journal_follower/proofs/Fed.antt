-- What is kept of a journal's pieces, in any order.
use Rattle.std.proofs.Common.{◌≡◌, ℕ, zero, suc, ◌+◌, ◌-◌, ◌<◌, Bool, true, false, List, [], ◌∷◌, ◌++◌, length, get_or, Option, Some, None, Result, Ok, Err, ◌⊎◌, inl, inr, refl, sym, ap, ◌∙◌, subst, arith, append_assoc, append-nil}
use Rattle.std.specs.Prelude.{slice_get, All, Contains, IfOk, if◌then◌else◌}
use Rattle.std.proofs.lemmas.List.Elements.{All-head, All-nil, All-cons, All-tail}
use mathlib.Core.List.{IsPrefix}
use Rattle.osm_base.specs.declared.memory.Memory.{Memory}
use Rattle.osm_model.specs.Journal.{IsLegal}
use Rattle.osm_model.specs.declared.commands.Entry.{Entry}
use Rattle.journal_text.specs.Kept.{may_follow}
use Rattle.replication_feed.specs.Piece.{pieces_from, pieces}
use Rattle.replication_feed.specs.declared.pieces.Piece.{Piece}
use Rattle.journal_follower.specs.Calls.{Call, AreCalls, AreOf, Agrees, after_all}
use Rattle.journal_follower.specs.Taken.{is_same, taken, kept_with, after, after_call}
use Rattle.journal_follower.specs.declared.answers.Taken.{Taken}
use Rattle.journal_follower.specs.declared.answers.Taken.TheVariants.{Folded, Old, Differs, Gap, Illegal}
use Rattle.journal_follower.proofs.Places.{compared, met, next, gap}
use Rattle.journal_follower.proofs.Said.{same_as_itself}

-- ---- where a piece of a journal stands

placed_from : (n : ℕ) (es : List Entry) (k : ℕ) (p : Piece) → k < length (pieces_from n es) → get_or (pieces_from n es) k p ≡ p → (p.number ≡ n + k) × (slice_get es k ≡ Some p.entry)
placed_from n [] k p within is = absurd (omega arith)
placed_from n (e ∷ es) zero p within is =
    let number : n ≡ p.number = ap (λ (q : Piece). q.number) is in
    (omega (arith, number), ap (λ (q : Piece). Some q.entry) is)
placed_from n (e ∷ es) (suc k) p within is =
    let below : k < length (pieces_from (n + 1) es) = omega arith in
    let more = placed_from (n + 1) es k p below is in
    let number = more.0 in
    (omega (arith, number), more.1)

-- the kth entry of a list with more behind it is the kth of the list, or the next one, or a later one
place_in : (kept more : List Entry) (k : ℕ) (e : Entry) → slice_get (kept ++ more) k ≡ Some e
    → (slice_get kept k ≡ Some e) ⊎ (((k ≡ length kept) × (rest : List Entry) × (more ≡ e ∷ rest)) ⊎ (length kept < k))
place_in [] [] k e is = cc
place_in [] (m ∷ more) zero e is = let same : m ≡ e = cc in inr (inl (refl, more, ap (λ (x : Entry). x ∷ more) same))
place_in [] (m ∷ more) (suc k) e is = inr (inr (omega arith))
place_in (x ∷ kept) more zero e is = inl is
place_in (x ∷ kept) more (suc k) e is = by (place_in kept more k e is)
  where
    by : (slice_get kept k ≡ Some e) ⊎ (((k ≡ length kept) × (rest : List Entry) × (more ≡ e ∷ rest)) ⊎ (length kept < k))
        → (slice_get kept k ≡ Some e) ⊎ (((suc k ≡ suc (length kept)) × (rest : List Entry) × (more ≡ e ∷ rest)) ⊎ (suc (length kept) < suc k))
    by (inl h) = inl h
    by (inr (inl h)) = inr (inl (ap suc h.0, h.1, h.2))
    by (inr (inr h)) = inr (inr (omega (arith, h)))

-- ---- one piece

module _ (kept more : List Entry) (p : Piece) where
  -- the piece is kept, or it is the next one, or a later one
  abbrev Stands : Type 0
  Stands = (taken kept p ≡ Old) ⊎ (((p.number ≡ length kept + 1) × (rest : List Entry) × (more ≡ p.entry ∷ rest)) ⊎ (taken kept p ≡ Gap (length kept + 1)))

  pub stands : Contains (pieces (kept ++ more)) p → Stands
  stands is =
      let place = placed_from 1 (kept ++ more) is.0 p is.1 is.2 in
      by place.0 (place_in kept more is.0 p.entry place.1)
    where
      by : p.number ≡ 1 + is.0 → (slice_get kept is.0 ≡ Some p.entry) ⊎ (((is.0 ≡ length kept) × (rest : List Entry) × (more ≡ p.entry ∷ rest)) ⊎ (length kept < is.0)) → Stands
      by number (inl h) =
          let place : p.number - 1 ≡ is.0 = omega (arith, number) in
          inl (met kept p p.entry (ap (slice_get kept) place ∙ h) ∙ ap compared (same_as_itself p.entry))
      by number (inr (inl h)) = let place = h.0 in inr (inl (omega (arith, number, place), h.1, h.2))
      by number (inr (inr h)) = inr (inr (gap kept p (omega (arith, number, h))))

  -- with it a beginning is kept
  pub piece_prefix : Stands → IsPrefix (after kept p) (kept ++ more)
  piece_prefix (inl old) = (more, ap (λ (t : Taken). kept_with t kept p.entry ++ more) old)
  piece_prefix (inr (inr behind)) = (more, ap (λ (t : Taken). kept_with t kept p.entry ++ more) behind)
  piece_prefix (inr (inl h)) = by (may_follow kept p.entry) (next kept p h.0)
    where
      by : (b : Bool) → taken kept p ≡ (if b then Folded else Illegal) → IsPrefix (after kept p) (kept ++ more)
      by true said = (h.1, ap (λ (t : Taken). kept_with t kept p.entry ++ h.1) said ∙ append_assoc kept (p.entry ∷ []) h.1 ∙ ap (λ (es : List Entry). kept ++ es) (sym h.2))
      by false said = (more, ap (λ (t : Taken). kept_with t kept p.entry ++ more) said)

  module _ (follows : (journal : List Entry) (entry : Entry) → IsLegal (journal ++ entry ∷ []) → may_follow journal entry ≡ true) (front : (journal more : List Entry) → IsLegal (journal ++ more) → IsLegal journal) where
    -- what comes next in a legal journal may follow
    pub next_follows : (e : Entry) (rest : List Entry) → IsLegal (kept ++ more) → more ≡ e ∷ rest → may_follow kept e ≡ true
    next_follows e rest legal is =
        follows kept e (front (kept ++ e ∷ []) rest (subst IsLegal (ap (λ (es : List Entry). kept ++ es) is ∙ sym (append_assoc kept (e ∷ []) rest)) legal))

    pub piece_agrees : IsLegal (kept ++ more) → Stands → Agrees (Ok (taken kept p))
    piece_agrees legal (inl old) = subst (λ (t : Taken). Agrees (Ok t)) (sym old) tt
    piece_agrees legal (inr (inr behind)) = subst (λ (t : Taken). Agrees (Ok t)) (sym behind) tt
    piece_agrees legal (inr (inl h)) =
        subst (λ (t : Taken). Agrees (Ok t)) (sym (next kept p h.0 ∙ ap (λ (b : Bool). if b then Folded else Illegal) (next_follows p.entry h.1 legal h.2))) tt

-- ---- calls

call_prefix : (journal kept : List Entry) (p : Piece) (came : Result Taken Memory) → IsPrefix kept journal → Contains (pieces journal) p → IsPrefix (after_call came kept p) journal
call_prefix journal kept p (Ok t) begins is =
    subst (IsPrefix (after kept p)) begins.1 (piece_prefix kept begins.0 p (stands kept begins.0 p (subst (λ (es : List Entry). Contains (pieces es) p) (sym begins.1) is)))
call_prefix journal kept p (Err memory) begins is = begins

pub stays_prefix : (journal kept : List Entry) (calls : List Call) → IsPrefix kept journal → AreOf journal calls → IsPrefix (after_all kept calls) journal
stays_prefix journal kept [] begins of = begins
stays_prefix journal kept (c ∷ calls) begins of =
    let P : Call → Type 0 = λ c. Contains (pieces journal) c.piece in
    stays_prefix journal (after_call c.came kept c.piece) calls (call_prefix journal kept c.piece c.came begins (All-head P c calls of)) (All-tail P c calls of)

prefix_trans : (a b c : List Entry) → IsPrefix a b → IsPrefix b c → IsPrefix a c
prefix_trans a b c h k = (h.0 ++ k.0, sym (append_assoc a h.0 k.0) ∙ ap (λ (es : List Entry). es ++ k.0) h.1 ∙ k.1)

call_grows : (kept : List Entry) (p : Piece) (came : Result Taken Memory) → IsPrefix kept (after_call came kept p)
call_grows kept p (Ok t) = by (taken kept p)
  where
    by : (t : Taken) → IsPrefix kept (kept_with t kept p.entry)
    by Folded = (p.entry ∷ [], refl)
    by Old = ([], append-nil kept)
    by Differs = ([], append-nil kept)
    by (Gap n) = ([], append-nil kept)
    by Illegal = ([], append-nil kept)
call_grows kept p (Err memory) = ([], append-nil kept)

pub grows : (kept : List Entry) (calls : List Call) → IsPrefix kept (after_all kept calls)
grows kept [] = ([], append-nil kept)
grows kept (c ∷ calls) = prefix_trans kept (after_call c.came kept c.piece) _ (call_grows kept c.piece c.came) (grows (after_call c.came kept c.piece) calls)

pub after_on : (kept : List Entry) (calls more : List Call) → after_all kept (calls ++ more) ≡ after_all (after_all kept calls) more
after_on kept [] more = refl
after_on kept (c ∷ calls) more = after_on (after_call c.came kept c.piece) calls more

pub calls_on : (kept : List Entry) (calls more : List Call) → AreCalls kept calls → AreCalls (after_all kept calls) more → AreCalls kept (calls ++ more)
calls_on kept [] more first last = last
calls_on kept (c ∷ calls) more first last = (first.0, calls_on (after_call c.came kept c.piece) calls more first.1 last)

module _ (follows : (journal : List Entry) (entry : Entry) → IsLegal (journal ++ entry ∷ []) → may_follow journal entry ≡ true) (front : (journal more : List Entry) → IsLegal (journal ++ more) → IsLegal journal) where
  call_agrees : (journal kept : List Entry) (p : Piece) (came : Result Taken Memory) → IsLegal journal → IsPrefix kept journal → Contains (pieces journal) p → IfOk came (λ answer. answer ≡ taken kept p) → Agrees came
  call_agrees journal kept p (Ok t) legal begins is said =
      subst (λ (t : Taken). Agrees (Ok t)) (sym said)
      (piece_agrees kept begins.0 p follows front (subst IsLegal (sym begins.1) legal) (stands kept begins.0 p (subst (λ (es : List Entry). Contains (pieces es) p) (sym begins.1) is)))
  call_agrees journal kept p (Err memory) legal begins is said = tt

  pub agrees : (journal kept : List Entry) (calls : List Call) → IsLegal journal → IsPrefix kept journal → AreOf journal calls → AreCalls kept calls → All (λ c. Agrees c.came) calls
  agrees journal kept [] legal begins of are = All-nil (λ (c : Call). Agrees c.came)
  agrees journal kept (c ∷ calls) legal begins of are =
      let P : Call → Type 0 = λ c. Contains (pieces journal) c.piece in
      All-cons (λ (c : Call). Agrees c.came) c calls
      (call_agrees journal kept c.piece c.came legal begins (All-head P c calls of) are.0)
      (agrees journal (after_call c.came kept c.piece) calls legal (call_prefix journal kept c.piece c.came begins (All-head P c calls of)) (All-tail P c calls of) are.1)
