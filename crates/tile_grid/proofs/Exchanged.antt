-- Two ids that change places, one on either side of a mark.
use Rattle.std.proofs.Common.{◌≡◌, ℕ, ◌+◌, ◌<◌, ◌≤◌, Bool, cond, List, [], ◌∷◌, ◌++◌, length, take, drop, get_or, set, refl, sym, ap, ◌∙◌, arith}
use Rattle.std.specs.Prelude.{◌==◌, if◌then◌else◌}
use Rattle.std.specs.List.{swap}
use Rattle.std.proofs.lemmas.Bool.Decides.{nat_tests}
use Rattle.std.proofs.lemmas.List.{take-set, take-set-le, take-append-le, drop-set-lt}
use Rattle.std.proofs.lemmas.Grind.{common_steps}
use Rattle.std.proofs.lemmas.List.Edits.{swap_is, length-swap, swapped_from_swap}
use Rattle.std.proofs.lemmas.List.Sums.{sum_by_more, sum_by-drop_more, sum_by-take-drop}
use Rattle.std.proofs.lemmas.List.Sorted.{sum_by-IsPermutation, IsPermutation-swap}
use Rattle.tile_grid.specs.Tile.{times_in}
use Rattle.tile_grid.proofs.Counts.{one}

-- whether the id at a place is another, as a number
abbrev is_at : List ℕ → ℕ → ℕ → ℕ
is_at ids place other = one (λ x. x == other) (get_or ids place 0)

turned : (ids : List ℕ) (place other : ℕ) → is_at ids place other ≡ (if other == get_or ids place 0 then 1 else 0)
turned ids place other = ap (λ (b : Bool). cond b 1 0) (turn (get_or ids place 0) other)
  where
    turn : (m n : ℕ) → (m == n) ≡ (n == m)
    turn m n = grind (arith, nat_tests)

pub swap-counts : (ids : List ℕ) (i j other : ℕ) → i < length ids → j < length ids → times_in (swap ids i j) other ≡ times_in ids other
swap-counts ids i j other first second = sum_by-IsPermutation (one (λ x. x == other)) ids (swap ids i j) (IsPermutation-swap ids (swap ids i j) i j first second refl)

-- the part before the mark gets the id at a place behind it
pub brought_in :
    (ids : List ℕ) (here place other : ℕ)
    → here ≤ place
    → place < length ids
    → times_in (take (here + 1) (swap ids here place)) other ≡ times_in (take here ids) other + (if other == get_or ids place 0 then 1 else 0)
brought_in ids here place other behind within =
    let first : here < length ids = omega arith in
    let new : List ℕ = swap ids here place in
    let is : set (set ids here (get_or ids place 0)) place (get_or ids here 0) ≡ new = swap_is ids here place 0 first within in
    let long : here < length new = omega (arith, length-swap ids here place) in
    let before : take here new ≡ take here ids
    = ap (take here) (sym is)
    ∙ take-set-le here (set ids here (get_or ids place 0)) place (get_or ids here 0) behind
    ∙ take-set ids here (get_or ids place 0) in
    let come : get_or new here 0 ≡ get_or ids place 0 = (swapped_from_swap ids new here place 0 first within refl).0 in
    sum_by_more (one (λ x. x == other)) new here 0 long
    ∙ ap (λ (l : List ℕ). times_in l other + is_at new here other) before
    ∙ ap (λ (x : ℕ). times_in (take here ids) other + one (λ y. y == other) x) come
    ∙ ap (λ (n : ℕ). times_in (take here ids) other + n) (turned ids place other)

-- the part before the mark, and one more, loses the id at a place in it
pub brought_out :
    (ids : List ℕ) (place here other : ℕ)
    → place ≤ here
    → here < length ids
    → times_in (take here (swap ids place here)) other + (if other == get_or ids place 0 then 1 else 0) ≡ times_in (take (here + 1) ids) other
brought_out ids place here other before within =
    let first : place < length ids = omega arith in
    let f : ℕ → ℕ = one (λ x. x == other) in
    let new : List ℕ = swap ids place here in
    let is : set (set ids place (get_or ids here 0)) here (get_or ids place 0) ≡ new = swap_is ids place here 0 first within in
    let long : here < length new = omega (arith, length-swap ids place here) in
    let behind : drop (here + 1) new ≡ drop (here + 1) ids
    = ap (drop (here + 1)) (sym is)
    ∙ drop-set-lt (here + 1) (set ids place (get_or ids here 0)) here (get_or ids place 0) (omega arith)
    ∙ drop-set-lt (here + 1) ids place (get_or ids here 0) (omega arith) in
    let gone : is_at new here other ≡ is_at ids place other
    = ap (one (λ x. x == other)) (swapped_from_swap ids new place here 0 first within refl).1 in
    let rest : times_in (drop (here + 1) new) other ≡ times_in (drop (here + 1) ids) other = ap (λ (l : List ℕ). times_in l other) behind in
    omega (arith, sum_by-take-drop f new here, sum_by-drop_more f new here 0 long, gone, rest, swap-counts ids place here other first within, sum_by-take-drop f ids (here + 1), turned ids place other)

-- one that comes behind all, and then into the part
pub come_in :
    (ids pushed new : List ℕ) (here last id other : ℕ)
    → here ≤ length ids
    → last ≡ length ids
    → pushed ≡ ids ++ id ∷ []
    → times_in new other ≡ times_in (take here pushed) other + (if other == get_or pushed last 0 then 1 else 0)
    → times_in new other ≡ times_in (take here ids) other + (if other == id then 1 else 0)
come_in ids pushed new here last id other within last_is pushed_is step =
    step
    ∙ ap (λ (l : List ℕ). times_in (take here l) other + (if other == get_or l last 0 then 1 else 0)) pushed_is
    ∙ ap (λ (n : ℕ). times_in (take here (ids ++ id ∷ [])) other + (if other == get_or (ids ++ id ∷ []) n 0 then 1 else 0)) last_is
    ∙ ap (λ (l : List ℕ). times_in l other + (if other == get_or (ids ++ id ∷ []) (length ids) 0 then 1 else 0)) (take-append-le here ids (id ∷ []) within)
    ∙ ap (λ (x : ℕ). times_in (take here ids) other + (if other == x then 1 else 0)) (at_end ids)
  where
    at_end : (xs : List ℕ) → get_or (xs ++ id ∷ []) (length xs) 0 ≡ id
    at_end xs = grind (arith, common_steps)
