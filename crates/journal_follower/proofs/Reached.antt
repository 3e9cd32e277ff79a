-- The pieces of a legal journal in their order.
use Rattle.std.proofs.Common.{◌≡◌, ℕ, zero, suc, ◌+◌, ◌-◌, ◌≤◌, true, false, List, [], ◌∷◌, ◌++◌, length, take, drop, Result, Ok, Err, refl, sym, ap, ◌∙◌, subst, arith, append_assoc, append-nil, length-append}
use Rattle.std.specs.Prelude.{All, IsOk, map, slice_range, if◌then◌else◌}
use Rattle.std.proofs.lemmas.List.{take-append-drop, length-take-le}
use Rattle.std.proofs.lemmas.List.Elements.{All-head, All-tail}
use Rattle.std.proofs.Math.Seq.{take-add}
use Rattle.osm_base.specs.declared.memory.Memory.{Memory}
use Rattle.osm_model.specs.Journal.{IsLegal}
use Rattle.osm_model.specs.declared.commands.Entry.{Entry}
use Rattle.journal_text.specs.Kept.{may_follow}
use Rattle.replication_feed.specs.Piece.{piece, pieces_from, pieces}
use Rattle.replication_feed.specs.declared.pieces.Piece.{Piece}
use Rattle.journal_follower.specs.Calls.{Call, after_all}
use Rattle.journal_follower.specs.Taken.{kept_with, taken, after, after_call}
use Rattle.journal_follower.specs.declared.answers.Taken.{Taken}
use Rattle.journal_follower.specs.declared.answers.Taken.TheVariants.{Folded, Illegal}
use Rattle.journal_follower.proofs.Places.{next}
use Rattle.journal_follower.proofs.Fed.{next_follows}

abbrev pieces_of : List Call → List Piece
pieces_of calls = map (λ (c : Call). c.piece) calls

abbrev Came : Call → Type 0
Came c = IsOk c.came

-- ---- the pieces of a part of a journal

drop_pieces : (k n : ℕ) (es : List Entry) → drop n (pieces_from k es) ≡ pieces_from (k + n) (drop n es)
drop_pieces k zero es = let e : k ≡ k + 0 = omega arith in ap (λ (m : ℕ). pieces_from m es) e
drop_pieces k (suc n) [] = refl
drop_pieces k (suc n) (e ∷ es) = let same : k + 1 + n ≡ k + suc n = omega arith in drop_pieces (k + 1) n es ∙ ap (λ (m : ℕ). pieces_from m (drop n es)) same

take_pieces : (k n : ℕ) (es : List Entry) → take n (pieces_from k es) ≡ pieces_from k (take n es)
take_pieces k zero es = refl
take_pieces k (suc n) [] = refl
take_pieces k (suc n) (e ∷ es) = ap (λ (ps : List Piece). piece k e ∷ ps) (take_pieces (k + 1) n es)

-- ---- a list of calls that take them

heads : (p q : Piece) (ps qs : List Piece) → p ∷ ps ≡ q ∷ qs → p ≡ q
heads p q ps qs same = cc

tails : (p q : Piece) (ps qs : List Piece) → p ∷ ps ≡ q ∷ qs → ps ≡ qs
tails p q ps qs same = cc

no_call : (p : Piece) (ps : List Piece) → [] ≡ p ∷ ps → ⊥
no_call p ps same = cc

came_well : (came : Result Taken Memory) (kept : List Entry) (p : Piece) → IsOk came → after_call came kept p ≡ after kept p
came_well (Ok t) kept p ok = refl
came_well (Err memory) kept p ok = cc

module _ (follows : (journal : List Entry) (entry : Entry) → IsLegal (journal ++ entry ∷ []) → may_follow journal entry ≡ true) (front : (journal more : List Entry) → IsLegal (journal ++ more) → IsLegal journal) where
  folds : (kept more rest : List Entry) (e : Entry) → IsLegal (kept ++ more) → more ≡ e ∷ rest → after kept (piece (length kept + 1) e) ≡ kept ++ e ∷ []
  folds kept more rest e legal is =
      let p : Piece = piece (length kept + 1) e in
      ap (λ (t : Taken). kept_with t kept e) (next kept p refl ∙ ap (λ b. if b then Folded else Illegal) (next_follows kept more p follows front e rest legal is))

  chain : (kept mid rest : List Entry) (calls : List Call) → IsLegal (kept ++ (mid ++ rest)) → pieces_of calls ≡ pieces_from (length kept + 1) mid → All Came calls → after_all kept calls ≡ kept ++ mid
  chain kept [] rest [] legal are came = sym (append-nil kept)
  chain kept [] rest (c ∷ calls) legal are came = absurd (no_call c.piece (pieces_of calls) (sym are))
  chain kept (e ∷ es) rest [] legal are came = absurd (no_call (piece (length kept + 1) e) (pieces_from (length kept + 1 + 1) es) are)
  chain kept (e ∷ es) rest (c ∷ calls) legal are came =
      let first : c.piece ≡ piece (length kept + 1) e = heads _ _ (pieces_of calls) (pieces_from (length kept + 1 + 1) es) are in
      let others : pieces_of calls ≡ pieces_from (length kept + 1 + 1) es = tails c.piece (piece (length kept + 1) e) _ _ are in
      let step : after_call c.came kept c.piece ≡ kept ++ e ∷ [] =
      came_well c.came kept c.piece (All-head Came c calls came) ∙ ap (after kept) first ∙ folds kept (e ∷ (es ++ rest)) (es ++ rest) e legal refl in
      let longer : length kept + 1 + 1 ≡ length (kept ++ e ∷ []) + 1 = omega (arith, length-append kept (e ∷ [])) in
      ap (λ (es : List Entry). after_all es calls) step
      ∙ chain (kept ++ e ∷ []) es rest calls (subst IsLegal (sym (append_assoc kept (e ∷ []) (es ++ rest))) legal) (others ∙ ap (λ (n : ℕ). pieces_from n es) longer) (All-tail Came c calls came)
      ∙ append_assoc kept (e ∷ []) es

  -- from n entries the pieces n + 1 to m in order bring it to m
  pub reaches : (journal : List Entry) (n m : ℕ) (calls : List Call) → IsLegal journal → n ≤ m → m ≤ length journal → pieces_of calls ≡ slice_range (pieces journal) n m → All Came calls → after_all (take n journal) calls ≡ take m journal
  reaches journal n m calls legal before within are came =
      let mid : List Entry = take (m - n) (drop n journal) in
      let rest : List Entry = drop (m - n) (drop n journal) in
      let whole : take n journal ++ (mid ++ rest) ≡ journal = ap (λ (es : List Entry). take n journal ++ es) (take-append-drop (m - n) (drop n journal)) ∙ take-append-drop n journal in
      let bound : n ≤ length journal = omega arith in
      let number : 1 + n ≡ length (take n journal) + 1 = omega (arith, length-take-le n journal bound) in
      let end : n + (m - n) ≡ m = omega arith in
      let same : pieces_of calls ≡ pieces_from (length (take n journal) + 1) mid =
      are ∙ ap (λ (ps : List Piece). take (m - n) ps) (drop_pieces 1 n journal) ∙ take_pieces (1 + n) (m - n) (drop n journal) ∙ ap (λ (k : ℕ). pieces_from k mid) number in
      chain (take n journal) mid rest calls (subst IsLegal (sym whole) legal) same came ∙ sym (take-add n (m - n) journal) ∙ ap (λ (k : ℕ). take k journal) end
