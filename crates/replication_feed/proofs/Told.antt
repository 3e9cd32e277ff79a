-- What a piece's text tells of it.
use Rattle.std.proofs.Common.{◌≡◌, ℕ, ◌<◌, ◌^◌, true, false, List, [], ◌∷◌, ◌++◌, refl, sym, ap, ◌∙◌, append_assoc}
use Rattle.std.specs.Prelude.{decimal}
use Rattle.std.specs.Char.{is_ascii_digit}
use Rattle.std.specs.List.{list_all}
use Rattle.std.proofs.lemmas.Bool.{and_parts, true≢false}
use Rattle.std.proofs.lemmas.Fmt.{decimal_injective}
use Rattle.std.proofs.lemmas.List.{append_cancel_left, append_cancel_right}
use Rattle.std.proofs.lemmas.List.Folds.{list_all-append}
use Rattle.osm_model.specs.declared.commands.Entry.{Entry}
use Rattle.journal_text.specs.Line.{line, IsEntry}
use Rattle.replication_feed.specs.Piece.{IsPieceText}
use Rattle.replication_feed.specs.Text.{beginning, middle, ending, numbered}
use Rattle.replication_feed.specs.declared.pieces.Piece.{Piece}
use Rattle.replication_feed.proofs.Decimals.{decimal_digits}
use Rattle.replication_feed.proofs.Numbered.{name, inner_is, colon_last}

first : (x y : ℕ) (xs ys : List ℕ) → x ∷ xs ≡ y ∷ ys → x ≡ y
first x y xs ys same = cc

rest : (x y : ℕ) (xs ys : List ℕ) → x ∷ xs ≡ y ∷ ys → xs ≡ ys
rest x y xs ys same = cc

-- digits have no other byte among them
all_digits : (xs ds es : List ℕ) (c : ℕ) → is_ascii_digit c ≡ false → list_all is_ascii_digit ds ≡ true → ds ≡ xs ++ c ∷ es → ⊥
all_digits xs ds es c other all is =
    let both = and_parts (list_all is_ascii_digit xs) (list_all is_ascii_digit (c ∷ es)) (sym (list_all-append is_ascii_digit xs (c ∷ es)) ∙ ap (λ ts. list_all is_ascii_digit ts) (sym is) ∙ all) in
    let digit = (and_parts (is_ascii_digit c) (list_all is_ascii_digit es) both.1).0 in
    true≢false (sym digit ∙ other)

-- a text has one way to end with a byte that is no digit and digits
ends_once : (xs ys ds es : List ℕ) (c : ℕ) → is_ascii_digit c ≡ false → list_all is_ascii_digit ds ≡ true → list_all is_ascii_digit es ≡ true
    → xs ++ c ∷ ds ≡ ys ++ c ∷ es → (xs ≡ ys) × (ds ≡ es)
ends_once [] [] ds es c other all also same = (refl, rest c c ds es same)
ends_once [] (y ∷ ys) ds es c other all also same = absurd (all_digits ys ds es c other all (rest c y ds (ys ++ c ∷ es) same))
ends_once (x ∷ xs) [] ds es c other all also same = absurd (all_digits xs es ds c other also (sym (rest x c (xs ++ c ∷ ds) es same)))
ends_once (x ∷ xs) (y ∷ ys) ds es c other all also same =
    let more = ends_once xs ys ds es c other all also (rest x y (xs ++ c ∷ ds) (ys ++ c ∷ es) same) in
    (ap (λ z. z ∷ xs) (first x y (xs ++ c ∷ ds) (ys ++ c ∷ es) same) ∙ ap (λ zs. y ∷ zs) more.0, more.1)

-- what stands between the beginning and the ending, as digits behind a colon
colon_is : (line digits : List ℕ) → line ++ middle ++ digits ≡ (line ++ name) ++ 58 ∷ digits
colon_is line digits = ap (λ ts. ts ++ digits) (colon_last line) ∙ append_assoc (line ++ name) (58 ∷ []) digits

pub parts_told : (line other : List ℕ) (n m : ℕ) → n < 2 ^ 64 → m < 2 ^ 64 → numbered line n ≡ numbered other m → (line ≡ other) × (n ≡ m)
parts_told line other n m small also same =
    let whole : beginning ++ (line ++ middle ++ decimal n) ++ ending ≡ beginning ++ (other ++ middle ++ decimal m) ++ ending =
    sym (inner_is line (decimal n)) ∙ same ∙ inner_is other (decimal m) in
    let inner = append_cancel_left beginning (line ++ middle ++ decimal n) (other ++ middle ++ decimal m)
    (append_cancel_right (beginning ++ (line ++ middle ++ decimal n)) (beginning ++ (other ++ middle ++ decimal m)) ending whole) in
    let ends = ends_once (line ++ name) (other ++ name) (decimal n) (decimal m) 58 refl (decimal_digits n small) (decimal_digits m also)
    (sym (colon_is line (decimal n)) ∙ inner ∙ colon_is other (decimal m)) in
    (append_cancel_right line other name ends.0, decimal_injective n m small also ends.1)

same_piece : (p q : Piece) → p.number ≡ q.number → p.entry ≡ q.entry → p ≡ q
same_piece p q number entry = λ i. record { number = number i; entry = entry i }

pub piece_told : ((entry other : Entry) → IsEntry entry → IsEntry other → line entry ≡ line other → entry ≡ other)
    → (text : List ℕ) (p other : Piece) → IsPieceText text p → IsPieceText text other → p ≡ other
piece_told tell text p other is also =
    let parts = parts_told (line p.entry) (line other.entry) p.number other.number is.typed.fits also.typed.fits (sym is.is ∙ also.is) in
    same_piece p other parts.1 (tell p.entry other.entry is.typed.entry also.typed.entry parts.0)
