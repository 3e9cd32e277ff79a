-- The cells of the notes.
use Rattle.std.proofs.Common.{◌≡◌, ℕ, zero, suc, ◌+◌, ◌-◌, Bool, true, false, ◌&&◌, List, [], ◌∷◌, ◌++◌, length, refl, sym, ap, ◌∙◌, arith}
use Rattle.std.specs.Prelude.{◌==◌, if◌then◌else◌, slice_get}
use Rattle.std.specs.Option.{option_map_or}
use Rattle.std.proofs.lemmas.Bool.Decides.{nat_tests}
use Rattle.osm_base.specs.Place.{Position}
use Rattle.tile_grid.specs.Cell.{cell_of, cell_eq}
use Rattle.tile_grid.specs.Grid.{times}
use Rattle.tile_grid.specs.Tile.{Held}
use Rattle.tile_grid.specs.declared.cells.Cell.{Cell}
use Rattle.notes_core.specs.World.{lies_in, IsPlaced}

abbrev pub ones : Bool → ℕ
ones b = if b then 1 else 0

abbrev pub lies_at : List Position → Cell → ℕ → Bool
lies_at places c i = option_map_or (λ p. cell_eq c (cell_of p)) (slice_get places i) false

-- what is added where a test fails, and where it holds
none : (n : ℕ) (q b : Bool) → b ≡ false → n ≡ n + ones (q && b)
none n true true e = cc
none n true false e = omega arith
none n false b e = omega arith

one : (q b : Bool) → b ≡ true → ones q ≡ 0 + ones (q && b)
one true true e = refl
one true false e = cc
one false b e = refl

pub not_zero : (i : ℕ) → (suc i == 0) ≡ false
not_zero i = grind (arith, nat_tests)

zero_not : (n : ℕ) → (zero == suc n) ≡ false
zero_not n = grind (arith, nat_tests)

suc_same : (i n : ℕ) → (suc i == suc n) ≡ (i == n)
suc_same i n = grind (arith, nat_tests)

pub less_one : (i : ℕ) → suc i - 1 ≡ i
less_one i = omega arith

pub lies-suc : (places : List Position) (c : Cell) (i : ℕ) → lies_in places c (suc i) ≡ lies_at places c i
lies-suc places c i = ap (λ (b : Bool). if b then false else lies_at places c (suc i - 1)) (not_zero i) ∙ ap (lies_at places c) (less_one i)

push-at : (places : List Position) (p : Position) (c : Cell) (i : ℕ) → ones (lies_at (places ++ p ∷ []) c i) ≡ ones (lies_at places c i) + ones (cell_eq c (cell_of p) && (i == length places))
push-at [] p c zero = one (cell_eq c (cell_of p)) (zero == 0) refl
push-at [] p c (suc i) = none 0 (cell_eq c (cell_of p)) (suc i == 0) (not_zero i)
push-at (x ∷ xs) p c zero = none (ones (cell_eq c (cell_of x))) (cell_eq c (cell_of p)) (zero == suc (length xs)) (zero_not (length xs))
push-at (x ∷ xs) p c (suc i) = push-at xs p c i ∙ ap (λ (b : Bool). ones (lies_at xs c i) + ones (cell_eq c (cell_of p) && b)) (sym (suc_same i (length xs)))

first-past : (n : ℕ) → (zero == n + 1) ≡ false
first-past n = grind (arith, nat_tests)

next-same : (i n : ℕ) → (suc i == n + 1) ≡ (i == n)
next-same i n = grind (arith, nat_tests)

push-in : (places : List Position) (p : Position) (c : Cell) (id : ℕ) → ones (lies_in (places ++ p ∷ []) c id) ≡ ones (lies_in places c id) + ones (cell_eq c (cell_of p) && (id == length places + 1))
push-in places p c zero = none 0 (cell_eq c (cell_of p)) (zero == length places + 1) (first-past (length places))
push-in places p c (suc i) =
    ap ones (lies-suc (places ++ p ∷ []) c i)
    ∙ push-at places p c i
    ∙ ap (λ (b : Bool). ones b + ones (cell_eq c (cell_of p) && (i == length places))) (sym (lies-suc places c i))
    ∙ ap (λ (b : Bool). ones (lies_in places c (suc i)) + ones (cell_eq c (cell_of p) && b)) (sym (next-same i (length places)))

lies_nowhere : (c : Cell) (id : ℕ) → ones (lies_in [] c id) ≡ 0
lies_nowhere c zero = refl
lies_nowhere c (suc i) = ap ones (lies-suc [] c i)

pub none_placed : (places : List Position) (g : List (List Held)) → places ≡ [] → ((c : Cell) (id : ℕ) → times g c id ≡ 0) → IsPlaced places g
none_placed places g empty nowhere = record {
  holds = λ c id. nowhere c id ∙ sym (lies_nowhere c id) ∙ ap (λ (ps : List Position). ones (lies_in ps c id)) (sym empty);
}

-- the cells hold what they held
pub still_placed : (before places : List Position) (g h : List (List Held)) → IsPlaced before g → places ≡ before → ((c : Cell) (id : ℕ) → times h c id ≡ times g c id) → IsPlaced places h
still_placed before places g h was same times_same = record {
  holds = λ c id. times_same c id ∙ was.holds c id ∙ ap (λ (ps : List Position). ones (lies_in ps c id)) (sym same);
}

-- a note is placed behind the others
pub next_placed :
    (before places : List Position) (g h : List (List Held)) (p : Position) (n : ℕ)
    → IsPlaced before g
    → places ≡ before ++ p ∷ []
    → n ≡ length before + 1
    → ((c : Cell) (id : ℕ) → times h c id ≡ times g c id + (if cell_eq c (cell_of p) && (id == n) then 1 else 0))
    → IsPlaced places h
next_placed before places g h p n was same counted entered = record {
  holds = λ c id.
      entered c id
      ∙ ap (λ (m : ℕ). times g c id + ones (cell_eq c (cell_of p) && (id == m))) counted
      ∙ ap (λ (m : ℕ). m + ones (cell_eq c (cell_of p) && (id == length before + 1))) (was.holds c id)
      ∙ sym (push-in before p c id)
      ∙ ap (λ (ps : List Position). ones (lies_in ps c id)) (sym same);
}
