-- A list of numbers of two digits, to which any such number may be added.
use Rattle.std.proofs.Common.{◌≡◌, ℕ, ◌%◌, Bool, true, false, List, [], ◌∷◌, ◌++◌, length, refl}
use Rattle.std.specs.Prelude.{Option, Some, None, IfSome, slice_get, nat_lt}
use Rattle.machine_law.specs.declared.tags.Tag.{Tag}
use Rattle.machine_law.specs.declared.tags.Settled.{Settled}
use Rattle.machine_law.specs.Rules.{Rules}
use Rattle.snapshot_rows.specs.declared.listing.Wish.{Wish}
use Rattle.snapshot_rows.specs.declared.listing.Noted.{Noted}
use Rattle.snapshot_rows.specs.declared.listing.Aim.{Aim}

-- the number as a byte, if there is one
abbrev pub text_of : Option ℕ → List ℕ
text_of None = []
text_of (Some number) = (number % 256) ∷ []

-- what the wish comes to, which may be done or not
abbrev pub noted : Bool → Tag → Wish → Settled Noted
noted true tag wish = record { answer = text_of (Some wish.number); entry = Some (record { tag = tag; wish = wish }) }
noted false tag wish = record { answer = []; entry = None }

-- a plan is a wish, and the length of the list that was looked at
abbrev pub listing_rules : Rules (List ℕ) Wish ℕ Aim Noted ℕ
listing_rules = record {
  start = [];
  act = λ numbers tag moment wish. noted (nat_lt wish.number 100) tag wish;
  after = λ numbers entry. numbers ++ entry.wish.number ∷ [];
  takes = λ numbers entry. nat_lt entry.wish.number 100;
  reply = λ numbers place moment. text_of (slice_get numbers place);
  tag_of = λ entry. entry.tag;
  planned = λ numbers wish plan. (plan.wish ≡ wish) × (plan.seen ≡ length numbers);
  stands = λ plan numbers. plan.seen ≡ length numbers;
  differs = λ look plan numbers. look ≡ length numbers;
  consistent = λ numbers. Unit {0};
}

-- what is noted may be added
pub noted_taken : (numbers : List ℕ) (tag : Tag) (wish : Wish)
    → IfSome (noted (nat_lt wish.number 100) tag wish).entry (λ e. (nat_lt e.wish.number 100 ≡ true) × (e.tag ≡ tag))
noted_taken numbers tag wish = go (nat_lt wish.number 100) refl where
  go : (b : Bool) → nat_lt wish.number 100 ≡ b → IfSome (noted b tag wish).entry (λ e. (nat_lt e.wish.number 100 ≡ true) × (e.tag ≡ tag))
  go true is = (is, refl)
  go false is = tt
