-- The laws of the machine. A ghost member of its impl may cite no lemma of this crate that stands elsewhere.
use Rattle.std.proofs.Common.{◌≡◌, ℕ, ◌<◌, Bool, true, false, ◌&&◌, List, [], ◌∷◌, ◌++◌, refl, arith, All}
use Rattle.std.specs.Prelude.{IfSome, nat_lt}
use Rattle.std.proofs.lemmas.Bool.Decides.{nat_tests}
use Rattle.std.proofs.lemmas.List.Elements.{All-push}
use Rattle.machine_law.specs.declared.tags.Tag.{Tag}
use Rattle.hub_rows.specs.Rising.{last_of, is_no_less, may_add, added}

-- an added number may be added
pub added_taken : (numbers : List ℕ) (tag : Tag) (number : ℕ)
    → IfSome (added (may_add numbers number) tag number).entry (λ e. (may_add numbers e.1 ≡ true) × (e.0 ≡ tag))
added_taken numbers tag number = go (may_add numbers number) refl where
  go : (b : Bool) → may_add numbers number ≡ b → IfSome (added b tag number).entry (λ e. (may_add numbers e.1 ≡ true) × (e.0 ≡ tag))
  go true is = (is, refl)
  go false is = tt

-- a list without numbers has none of three digits
pub nothing_consistent : All (λ n. n < 100) []
nothing_consistent = λ k d below. absurd (omega (arith, below))

is_two_digits : (number : ℕ) (other : Bool) → nat_lt number 100 && other ≡ true → number < 100
is_two_digits number other may = go (nat_lt number 100) refl may where
  go : (b : Bool) → nat_lt number 100 ≡ b → b && other ≡ true → number < 100
  go true is may = grind (arith, nat_tests)
  go false is may = absurd (cc may)

-- and leaves numbers of two digits
pub added_consistent : (numbers : List ℕ) (number : ℕ) → may_add numbers number ≡ true → All (λ n. n < 100) numbers → All (λ n. n < 100) (numbers ++ number ∷ [])
added_consistent numbers number may all = All-push (λ n. n < 100) numbers number all (is_two_digits number (is_no_less (last_of numbers) number) may)
