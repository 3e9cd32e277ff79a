-- Where two bytes 10 first stand side by side.
use Rattle.std.proofs.Common.{◌≡◌, ◌≢◌, ℕ, zero, suc, List, [], ◌∷◌, ◌++◌, length, drop, refl, sym, ap, ◌∙◌, subst, arith}
use Rattle.std.specs.Prelude.{◌↔◌, ◌==◌, false}
use Rattle.std.proofs.lemmas.Bool.{true≢false}
use Rattle.journal_file.specs.Whole.{BeginsWith}
use Rattle.journal_file.specs.Settled.{AreZeros, HasMoreBehind}

zero_there : (front back bytes : List ℕ) (x : ℕ) → bytes ≡ front ++ x ∷ back → AreZeros bytes → x ≡ 0
zero_there [] back [] x is are = absurd (cc)
zero_there [] back (b ∷ bytes) x is are =
    let first : b ≡ 0 = cc in
    let same : b ≡ x = cc in
    sym same ∙ first
zero_there (y ∷ front) back [] x is are = absurd (cc)
zero_there (y ∷ front) back (b ∷ bytes) x is are =
    let tail : bytes ≡ front ++ x ∷ back = cc in
    let zeros : AreZeros bytes = cc in
    zero_there front back bytes x tail zeros

no_ten : (front back bytes : List ℕ) → bytes ≡ front ++ 10 ∷ back → AreZeros bytes → ⊥
no_ten front back bytes is are = let ten : 10 ≡ 0 = zero_there front back bytes 10 is are in absurd (omega (arith, ten))

more_first : (bytes : List ℕ) → HasMoreBehind (10 ∷ 10 ∷ bytes) → AreZeros bytes → ⊥
more_first bytes has are = by has.before has.after has.is has.more
  where
    by : (before after : List ℕ) → 10 ∷ 10 ∷ bytes ≡ before ++ 10 ∷ 10 ∷ after → (AreZeros after → ⊥) → ⊥
    by [] after is more = let tail : bytes ≡ after = cc in more (subst AreZeros tail are)
    by (x ∷ []) after is more = let tail : bytes ≡ 10 ∷ after = cc in no_ten [] after bytes tail are
    by (x ∷ y ∷ before) after is more = let tail : bytes ≡ before ++ 10 ∷ 10 ∷ after = cc in no_ten before (10 ∷ after) bytes tail are

pub pair_first : (left bytes : List ℕ) → left ≡ (10 ∷ 10 ∷ []) ++ bytes → HasMoreBehind left ↔ (AreZeros bytes → ⊥)
pair_first left bytes is = (
  λ has. more_first bytes (subst HasMoreBehind is has),
  λ more. record { before = []; after = bytes; is = is; more = more },
)

pub pair_later : (b : ℕ) (bs : List ℕ) → (BeginsWith (10 ∷ 10 ∷ []) (b ∷ bs) → ⊥) → HasMoreBehind bs ↔ HasMoreBehind (b ∷ bs)
pair_later b bs not_here = (
  λ has. record { before = b ∷ has.before; after = has.after; is = ap (λ (l : List ℕ). b ∷ l) has.is; more = has.more },
  λ has. by has.before has.after has.is has.more,
)
  where
    by : (before after : List ℕ) → b ∷ bs ≡ before ++ 10 ∷ 10 ∷ after → (AreZeros after → ⊥) → HasMoreBehind bs
    by [] after is more = absurd (not_here (after, is))
    by (x ∷ before) after is more = record { before = before; after = after; is = (cc); more = more }

pub none_more : HasMoreBehind [] → ⊥
none_more has = by has.before has.after has.is
  where
    by : (before after : List ℕ) → [] ≡ before ++ 10 ∷ 10 ∷ after → ⊥
    by [] after is = absurd (cc)
    by (x ∷ before) after is = absurd (cc)

-- one byte less
pub more_tail : (left : List ℕ) → (length left == 0) ≡ false → (BeginsWith (10 ∷ 10 ∷ []) left → ⊥) → HasMoreBehind (drop 1 left) ↔ HasMoreBehind left
more_tail [] some not_here = absurd (true≢false some)
more_tail (b ∷ bs) some not_here = pair_later b bs not_here
