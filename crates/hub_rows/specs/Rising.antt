-- A list of numbers of two digits, to which a number may be added that is no less than the last.
use Rattle.std.proofs.Common.{◌≡◌, ℕ, ◌-◌, ◌%◌, ◌<◌, Bool, true, false, ◌&&◌, List, [], ◌∷◌, ◌++◌, length, All}
use Rattle.std.specs.Prelude.{Option, Some, None, slice_get, nat_le, nat_lt}
use Rattle.machine_law.specs.declared.tags.Tag.{Tag}
use Rattle.machine_law.specs.declared.tags.Settled.{Settled}
use Rattle.machine_law.specs.Rules.{Rules}

abbrev pub last_of : List ℕ → Option ℕ
last_of numbers = slice_get numbers (length numbers - 1)

abbrev pub is_no_less : Option ℕ → ℕ → Bool
is_no_less None number = true
is_no_less (Some last) number = nat_le last number

abbrev pub may_add : List ℕ → ℕ → Bool
may_add numbers number = nat_lt number 100 && is_no_less (last_of numbers) number

-- the number as a byte, if there is one
abbrev pub text_of : Option ℕ → List ℕ
text_of None = []
text_of (Some number) = (number % 256) ∷ []

-- what the addition of a number comes to, which may be done or not
abbrev pub added : Bool → Tag → ℕ → Settled (Tag × ℕ)
added true tag number = record { answer = text_of (Some number); entry = Some (tag, number) }
added false tag number = record { answer = []; entry = None }

-- a plan is a number, and the last of the list that was looked at
abbrev pub rising_rules : Rules (List ℕ) ℕ ℕ (ℕ × Option ℕ) (Tag × ℕ) (Option ℕ)
rising_rules = record {
  start = [];
  act = λ numbers tag moment number. added (may_add numbers number) tag number;
  after = λ numbers entry. numbers ++ entry.1 ∷ [];
  takes = λ numbers entry. may_add numbers entry.1;
  reply = λ numbers place moment. text_of (slice_get numbers place);
  tag_of = λ entry. entry.0;
  planned = λ numbers number plan. (plan.0 ≡ number) × (plan.1 ≡ last_of numbers);
  stands = λ plan numbers. plan.1 ≡ last_of numbers;
  differs = λ look plan numbers. look ≡ last_of numbers;
  consistent = λ numbers. All (λ n. n < 100) numbers;
}
