-- A call with the next number may follow.
use Rattle.std.proofs.Common.{◌≡◌, ◌+◌, ◌==◌, Bool, true, false, ◌&&◌, List, [], ◌∷◌, ◌++◌, refl, append_assoc}
use Rattle.std.proofs.lemmas.Bool.{eq-eqb, and_from, false≢true}
use Rattle.std.proofs.lemmas.List.{append-nil}
use Rattle.machine_law.specs.declared.tags.Tag.{Tag}
use Rattle.hub_core.specs.Journal.{calls_of, is_numbered}

pub both_true : (a b : Bool) → a && b ≡ true → (a ≡ true) × (b ≡ true)
both_true true b h = (refl, h)
both_true false b h = absurd (false≢true h)

module _ {E : Type 0} (tag_of : E → Tag) where
  pub numbered_push : (before xs : List E) (e : E) → is_numbered tag_of before xs ≡ true → (tag_of e).call ≡ calls_of tag_of (tag_of e).session (before ++ xs) + 1 → is_numbered tag_of before (xs ++ e ∷ []) ≡ true
  numbered_push before [] e h next =
      let here : (tag_of e).call ≡ calls_of tag_of (tag_of e).session before + 1 = rw append-nil at next in
      and_from ((tag_of e).call == calls_of tag_of (tag_of e).session before + 1) true (eq-eqb (tag_of e).call (calls_of tag_of (tag_of e).session before + 1) here) refl
  numbered_push before (x ∷ xs) e h next =
      let p = both_true ((tag_of x).call == calls_of tag_of (tag_of x).session before + 1) (is_numbered tag_of (before ++ x ∷ []) xs) h in
      rw p.0 (numbered_push (before ++ x ∷ []) xs e p.1 (rw append_assoc next))

  -- what is numbered is so wherever it is cut off
  pub numbered_first : (before es more : List E) → is_numbered tag_of before (es ++ more) ≡ true → is_numbered tag_of before es ≡ true
  numbered_first before [] more h = refl
  numbered_first before (e ∷ es) more h =
      let p = both_true ((tag_of e).call == calls_of tag_of (tag_of e).session before + 1) (is_numbered tag_of (before ++ e ∷ []) (es ++ more)) h in
      rw p.0 (numbered_first (before ++ e ∷ []) es more p.1)
