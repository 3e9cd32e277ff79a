-- The parts of a text, by its first cut.
use Rattle.std.proofs.Common.{◌≡◌, ℕ, Bool, true, false, not, List, [], ◌∷◌, length, Option, Some, None, refl, ap, ◌∙◌, arith}
use Rattle.std.specs.Prelude.{nat_lt, unwrap_or}
use Rattle.std.specs.List.{slice_split, onto_first, position_or_len, before_first, after_first}
use Rattle.std.proofs.lemmas.Grind.{common_steps}
use Rattle.std.proofs.lemmas.Bool.Decides.{nat_tests}
use Rattle.std.proofs.lemmas.List.Splits.{slice_split_first, slice_split-cons_no, length-slice_split}
use Rattle.std.proofs.lemmas.List.Sums.{prefix_len-le-length}
use Rattle.osm_base.specs.Parts.{is_byte, parted, parts_of}

-- one more item before a list that is one part
more_of_one :
    {X : Type 0} (p : X → Bool) (x : X) (xs : List X) (passes : Bool)
    → p x ≡ passes
    → (position_or_len p xs ≡ length xs → slice_split p xs ≡ xs ∷ [])
    → position_or_len p (x ∷ xs) ≡ length (x ∷ xs)
    → slice_split p (x ∷ xs) ≡ (x ∷ xs) ∷ []
more_of_one p x xs true is rest whole = grind (arith, common_steps)
more_of_one p x xs false is rest whole =
    let short : position_or_len p xs ≡ length xs = grind (arith, common_steps) in
    slice_split-cons_no p x xs is ∙ ap (onto_first x) (rest short)

-- a list of which no item passes is one part
one_part : {X : Type 0} (p : X → Bool) (xs : List X) → position_or_len p xs ≡ length xs → slice_split p xs ≡ xs ∷ []
one_part p [] whole = refl
one_part p (x ∷ xs) whole = more_of_one p x xs (p x) refl (one_part p xs) whole

-- a text that is cut has a first part, and the parts of the rest
pub parts-cut : (c : ℕ) (text first rest : List ℕ) → parted c text ≡ Some (first, rest) → parts_of c text ≡ first ∷ parts_of c rest
parts-cut c text first rest is = by_test (nat_lt (position_or_len (is_byte c) text) (length text)) refl
  where
    by_test : (below : Bool) → nat_lt (position_or_len (is_byte c) text) (length text) ≡ below → parts_of c text ≡ first ∷ parts_of c rest
    by_test true e =
        let both : Some (before_first (is_byte c) text, after_first (is_byte c) text) ≡ Some (first, rest) = rw e at is in
        let front : before_first (is_byte c) text ≡ first = ap (λ (o : Option (List ℕ × List ℕ)). (unwrap_or o ([], [])).0) both in
        let back : after_first (is_byte c) text ≡ rest = ap (λ (o : Option (List ℕ × List ℕ)). (unwrap_or o ([], [])).1) both in
        slice_split_first (is_byte c) text 0 (grind (arith, nat_tests))
        ∙ ap (λ (x : List ℕ). x ∷ parts_of c (after_first (is_byte c) text)) front
        ∙ ap (λ (x : List ℕ). first ∷ parts_of c x) back
    by_test false e = let never : ◌≡◌ {A = Option (List ℕ × List ℕ)} None (Some (first, rest)) = rw e at is in cc

-- a text without such a byte is one part
pub parts-whole : (c : ℕ) (text : List ℕ) → parted c text ≡ None → parts_of c text ≡ text ∷ []
parts-whole c text is = by_test (nat_lt (position_or_len (is_byte c) text) (length text)) refl
  where
    by_test : (below : Bool) → nat_lt (position_or_len (is_byte c) text) (length text) ≡ below → parts_of c text ≡ text ∷ []
    by_test true e = let never : Some (before_first (is_byte c) text, after_first (is_byte c) text) ≡ None = rw e at is in cc
    by_test false e =
        let bound = prefix_len-le-length (λ (x : ℕ). not (is_byte c x)) text in
        one_part (is_byte c) text (grind (arith, nat_tests))

-- there is always a part
pub some_part : (c : ℕ) (text : List ℕ) → parts_of c text ≡ [] → ⊥
some_part c text none = omega (arith, length-slice_split (is_byte c) text, ap length none)

-- without such a byte the whole text stands before it, and nothing behind it
pub before-whole : (c : ℕ) (text : List ℕ) → parted c text ≡ None → before_first (is_byte c) text ≡ text
before-whole c text is = by_test (nat_lt (position_or_len (is_byte c) text) (length text)) refl
  where
    by_test : (below : Bool) → nat_lt (position_or_len (is_byte c) text) (length text) ≡ below → before_first (is_byte c) text ≡ text
    by_test true e = let never : Some (before_first (is_byte c) text, after_first (is_byte c) text) ≡ None = rw e at is in cc
    by_test false e =
        let bound = prefix_len-le-length (λ (x : ℕ). not (is_byte c x)) text in
        grind (arith, common_steps, nat_tests)

pub after-whole : (c : ℕ) (text : List ℕ) → parted c text ≡ None → after_first (is_byte c) text ≡ []
after-whole c text is = by_test (nat_lt (position_or_len (is_byte c) text) (length text)) refl
  where
    by_test : (below : Bool) → nat_lt (position_or_len (is_byte c) text) (length text) ≡ below → after_first (is_byte c) text ≡ []
    by_test true e = let never : Some (before_first (is_byte c) text, after_first (is_byte c) text) ≡ None = rw e at is in cc
    by_test false e =
        let bound = prefix_len-le-length (λ (x : ℕ). not (is_byte c x)) text in
        grind (arith, common_steps, nat_tests)
