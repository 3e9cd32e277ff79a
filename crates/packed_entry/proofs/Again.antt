-- What was packed is read again, whatever follows it.
use Rattle.std.proofs.Common.{◌≡◌, ℕ, suc, ◌^◌, ◌<◌, Bool, true, false, ltb, List, [], ◌∷◌, ◌++◌, length, Option, Some, None, refl, ap, ◌∙◌, append_assoc, arith, inl, inr}
use Rattle.std.specs.Prelude.{All}
use Rattle.std.specs.List.{flat_map, AllByRecursion}
use Rattle.std.specs.Int.{Width, w16, w32, w64, byte_len, from_be_bytes, to_be_bytes}
use Rattle.std.proofs.lemmas.Bool.{cases_lt, le-ltb, lt-ltb}
use Rattle.std.proofs.lemmas.List.{take_at, drop_at, length-append}
use Rattle.std.proofs.lemmas.List.Elements.{recursion_from_All}
use Rattle.std.proofs.lemmas.Nat.{from_be_bytes-to_be_bytes_2, from_be_bytes-to_be_bytes_4, from_be_bytes-to_be_bytes_8}
use Rattle.std.proofs.lemmas.Str.{is_utf8-from_IsUtf8}
use Rattle.packed_entry.specs.Packed.{packed_number, packed_optional, packed_flag, packed_text, packed_list}
use Rattle.packed_entry.specs.Read.{Parsed, wide_at, number_at, optional_at, flag_at, text_at, each_at, list_at}
use Rattle.packed_entry.specs.Typed.{FitsIfSome, IsText, AreAll}

-- ---- numbers

pub record IsWide (w : Width) (limit : ℕ) : Type 0 where
  pub len : (n : ℕ) → length (to_be_bytes w n) ≡ byte_len w
  pub again : (n : ℕ) → n < limit → from_be_bytes w (to_be_bytes w n) ≡ n

wide16 : IsWide w16 (2 ^ 16)
wide16 = record { len = λ n. refl; again = from_be_bytes-to_be_bytes_2 }

wide32 : IsWide w32 (2 ^ 32)
wide32 = record { len = λ n. refl; again = from_be_bytes-to_be_bytes_4 }

pub wide64 : IsWide w64 (2 ^ 64)
wide64 = record { len = λ n. refl; again = from_be_bytes-to_be_bytes_8 }

pub wide_again : (w : Width) (limit : ℕ) → IsWide w limit → (n : ℕ) (rest : List ℕ) → n < limit → wide_at w (to_be_bytes w n ++ rest) ≡ Some (n, rest)
wide_again w limit wide n rest lt =
    let len = wide.len n in
    let long : ltb (length (to_be_bytes w n ++ rest)) (byte_len w) ≡ false = le-ltb _ _ (omega (arith, length-append (to_be_bytes w n) rest)) in
    rw (long, take_at (to_be_bytes w n) rest (byte_len w) len, drop_at (to_be_bytes w n) rest (byte_len w) len, wide.again n lt) refl

pub number_again : (n : ℕ) (rest : List ℕ) → n < 2 ^ 64 → number_at (packed_number n ++ rest) ≡ Some (n, rest)
unfolding packed_number number_at
number_again n rest fits =
    elim (cases_lt n 248) [
      | inl one ↦ let test = lt-ltb n 248 one in rw (test, test) refl
      | inr le ↦ let test = le-ltb n 248 le in
          elim (cases_lt n (2 ^ 16)) [
            | inl two ↦ let small = lt-ltb n (2 ^ 16) two in rw (test, small) (wide_again w16 (2 ^ 16) wide16 n rest two)
            | inr le ↦ let large = le-ltb n (2 ^ 16) le in
                elim (cases_lt n (2 ^ 32)) [
                  | inl four ↦ let small = lt-ltb n (2 ^ 32) four in rw (test, large, small) (wide_again w32 (2 ^ 32) wide32 n rest four)
                  | inr le ↦ let huge = le-ltb n (2 ^ 32) le in rw (test, large, huge) (wide_again w64 (2 ^ 64) wide64 n rest fits)
                ]
          ]
    ]

pub optional_again : (o : Option ℕ) (rest : List ℕ) → FitsIfSome o → optional_at (packed_optional o ++ rest) ≡ Some (o, rest)
unfolding packed_optional optional_at
optional_again None rest fits = refl
optional_again (Some n) rest fits = rw (number_again n rest fits) refl

pub flag_again : (b : Bool) (rest : List ℕ) → flag_at (packed_flag b ++ rest) ≡ Some (b, rest)
unfolding packed_flag flag_at
flag_again true rest = refl
flag_again false rest = refl

-- ---- texts and lists

pub text_again : (text rest : List ℕ) → IsText text → text_at (packed_text text ++ rest) ≡ Some (text, rest)
unfolding packed_text text_at
text_again text rest is =
    let fits = is.fits in
    let utf8 = is_utf8-from_IsUtf8 text is.utf8 in
    let long : ltb (length (text ++ rest)) (length text) ≡ false = le-ltb _ _ (omega (arith, length-append text rest)) in
    rw (append_assoc (packed_number (length text)) text rest, number_again (length text) (text ++ rest) fits, long, take_at text rest (length text) refl, drop_at text rest (length text) refl, utf8) refl

-- each item is read again
abbrev pub ReadsAgain : {X : Type 0} → (X → List ℕ) → (List ℕ → Parsed X) → (X → Type 0) → Type 0
ReadsAgain {X} packed one P = (x : X) (rest : List ℕ) → P x → one (packed x ++ rest) ≡ Some (x, rest)

each_by : {X : Type 0} (packed : X → List ℕ) (one : List ℕ → Parsed X) (P : X → Type 0) → ReadsAgain packed one P → (xs : List X) (rest : List ℕ) → AllByRecursion P xs
    → each_at one (length xs) (flat_map packed xs ++ rest) ≡ Some (xs, rest)
unfolding each_at
each_by packed one P again [] rest typed = refl
each_by packed one P again (x ∷ xs) rest typed =
    ap (each_at one (suc (length xs))) (append_assoc (packed x) (flat_map packed xs) rest)
    ∙ rw (again x (flat_map packed xs ++ rest) typed.0, each_by packed one P again xs rest typed.1) refl

pub each_again : {X : Type 0} (packed : X → List ℕ) (one : List ℕ → Parsed X) (P : X → Type 0) → ReadsAgain packed one P → (xs : List X) (rest : List ℕ) → All P xs
    → each_at one (length xs) (flat_map packed xs ++ rest) ≡ Some (xs, rest)
each_again packed one P again xs rest typed = each_by packed one P again xs rest (recursion_from_All P xs typed)

pub list_again : {X : Type 0} (packed : X → List ℕ) (one : List ℕ → Parsed X) (P : X → Type 0) → ReadsAgain packed one P → (xs : List X) (rest : List ℕ) → AreAll P xs
    → list_at one (packed_list packed xs ++ rest) ≡ Some (xs, rest)
unfolding packed_list list_at
list_again packed one P again xs rest all =
    let fits = all.fit in
    rw (append_assoc (packed_number (length xs)) (flat_map packed xs) rest, number_again (length xs) (flat_map packed xs ++ rest) fits, each_again packed one P again xs rest all.each) refl
