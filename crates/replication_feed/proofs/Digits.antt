-- Where the digits at the end of a text begin.
use Rattle.std.proofs.Common.{◌≡◌, ℕ, zero, suc, ◌+◌, ◌-◌, ◌<◌, ◌≤◌, Bool, true, false, List, [], ◌∷◌, ◌++◌, length, get_or, take, drop, refl, sym, ap, ◌∙◌, arith, ⊎_elim, length-append}
use Rattle.std.specs.Char.{is_ascii_digit}
use Rattle.std.specs.List.{list_all}
use Rattle.std.proofs.lemmas.Bool.{cases_Bool, cases_order}
use Rattle.std.proofs.lemmas.List.Folds.{list_all_at}
use Rattle.std.proofs.Math.Seq.{take-append_seam, drop-append_seam}

each : (p : ℕ → Bool) (xs : List ℕ) (i : ℕ) → list_all p xs ≡ true → i < length xs → p (get_or xs i 0) ≡ true
each p xs i all below =
    ⊎_elim (λ is. is) (λ not. let clash : true ≡ false = sym all ∙ list_all_at p xs i 0 below not in cc) (cases_Bool (p (get_or xs i 0)))

-- the byte between
between : (front digits : List ℕ) (byte : ℕ) → get_or ((front ++ byte ∷ []) ++ digits) (length front) 0 ≡ byte
between [] digits byte = refl
between (x ∷ front) digits byte = between front digits byte

-- each byte behind it is a digit
behind : (front digits : List ℕ) (byte k : ℕ) → list_all is_ascii_digit digits ≡ true → length front < k
    → k < length ((front ++ byte ∷ []) ++ digits) → is_ascii_digit (get_or ((front ++ byte ∷ []) ++ digits) k 0) ≡ true
behind [] digits byte zero all after below = absurd (omega arith)
behind [] digits byte (suc k) all after below = each is_ascii_digit digits k all (omega arith)
behind (x ∷ front) digits byte zero all after below = absurd (omega arith)
behind (x ∷ front) digits byte (suc k) all after below = behind front digits byte k all (omega arith) (omega arith)

length_is : (front digits : List ℕ) (byte : ℕ) → length ((front ++ byte ∷ []) ++ digits) ≡ length front + 1 + length digits
length_is front digits byte = omega (arith, length-append (front ++ byte ∷ []) digits, length-append front (byte ∷ []))

-- so the digits begin behind it
start_is : (text front digits : List ℕ) (byte start : ℕ) → is_ascii_digit byte ≡ false → list_all is_ascii_digit digits ≡ true
    → text ≡ (front ++ byte ∷ []) ++ digits → start ≤ length text
    → ((k : ℕ) → start ≤ k → k < length text → is_ascii_digit (get_or text k 0) ≡ true)
    → (1 ≤ start → is_ascii_digit (get_or text (start - 1) 0) ≡ false)
    → start ≡ length (front ++ byte ∷ [])
start_is text front digits byte start other all is within from before =
    ⊎_elim same (λ apart. ⊎_elim earlier later apart) (cases_order start (length front + 1))
  where
    long : length text ≡ length front + 1 + length digits
    long = ap length is ∙ length_is front digits byte

    same : start ≡ length front + 1 → start ≡ length (front ++ byte ∷ [])
    same e = omega (arith, e, length-append front (byte ∷ []))

    earlier : start < length front + 1 → start ≡ length (front ++ byte ∷ [])
    earlier lt =
        let digit : is_ascii_digit (get_or text (length front) 0) ≡ true = from (length front) (omega (arith, lt)) (omega (arith, long)) in
        let here : get_or text (length front) 0 ≡ byte = ap (λ ts. get_or ts (length front) 0) is ∙ between front digits byte in
        let clash : true ≡ false = sym digit ∙ ap is_ascii_digit here ∙ other in
        cc

    later : length front + 1 < start → start ≡ length (front ++ byte ∷ [])
    later lt =
        let below : start - 1 < length ((front ++ byte ∷ []) ++ digits) = omega (arith, lt, within, ap length is) in
        let digit : is_ascii_digit (get_or ((front ++ byte ∷ []) ++ digits) (start - 1) 0) ≡ true = behind front digits byte (start - 1) all (omega (arith, lt)) below in
        let none : is_ascii_digit (get_or text (start - 1) 0) ≡ false = before (omega (arith, lt)) in
        let clash : true ≡ false = sym digit ∙ ap (λ ts. is_ascii_digit (get_or ts (start - 1) 0)) (sym is) ∙ none in
        cc

pub split_is : (text front digits : List ℕ) (byte start : ℕ) → is_ascii_digit byte ≡ false → list_all is_ascii_digit digits ≡ true
    → text ≡ (front ++ byte ∷ []) ++ digits → start ≤ length text
    → ((k : ℕ) → start ≤ k → k < length text → is_ascii_digit (get_or text k 0) ≡ true)
    → (1 ≤ start → is_ascii_digit (get_or text (start - 1) 0) ≡ false)
    → (take start text ≡ front ++ byte ∷ []) × (drop start text ≡ digits)
split_is text front digits byte start other all is within from before =
    let here = start_is text front digits byte start other all is within from before in (
      ap (λ n. take n text) here ∙ ap (λ ts. take (length (front ++ byte ∷ [])) ts) is ∙ take-append_seam (front ++ byte ∷ []) digits,
      ap (λ n. drop n text) here ∙ ap (λ ts. drop (length (front ++ byte ∷ [])) ts) is ∙ drop-append_seam (front ++ byte ∷ []) digits,
    )
