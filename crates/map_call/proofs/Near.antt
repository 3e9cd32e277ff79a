-- The nodes in the cells that an area touches.
use Rattle.std.proofs.Common.{◌≡◌, ℕ, ◌<◌, ◌≤◌, Bool, true, false, ⊎_elim, List, [], ◌∷◌, length, Option, Some, None, refl, sym, ap, ◌∙◌, arith}
use Rattle.std.specs.Prelude.{filter, if◌then◌else◌}
use Rattle.std.specs.Option.{option_map_or}
use Rattle.std.specs.List.Sorted.{IsStrictlyIncreasing}
use Rattle.std.proofs.lemmas.Bool.{cases_Bool, false≢true, and_parts, and_from, eqb-true, eq-eqb}
use Rattle.osm_base.specs.Place.{Position, Area, IsArea, area_holds}
use Rattle.osm_base.specs.declared.keys.Kind.TheVariants.{Node}
use Rattle.osm_element.specs.Elements.{key, position}
use Rattle.osm_element.specs.declared.elements.Elements.{Elements}
use Rattle.osm_model.specs.Reads.{ids_of}
use Rattle.osm_model.specs.Selection.{is_inside, nodes_within}
use Rattle.rising_lists.specs.Ids.{lists_id, ids_to}
use Rattle.tile_grid.specs.declared.cells.Cell.{Cell}
use Rattle.tile_grid.specs.Cell.{cell_of, cell_eq, touches}
use Rattle.tile_grid.specs.Tile.{Held}
use Rattle.tile_grid.specs.Grid.{times, TouchedAt}
use Rattle.indexed_map.specs.Placed.{lies, lies_in, IsPlaced}
use Rattle.map_call.specs.Near.{is_near, nodes_near}
use Rattle.map_call.proofs.Any.{iff}
use Rattle.map_call.proofs.Range.{given-position}

cells-same : (c d : Cell) → cell_eq c d ≡ true → c ≡ d
cells-same c d e =
    let both = and_parts _ _ e in
    let rows : c.row ≡ d.row = eqb-true c.row d.row both.0 in
    let columns : c.column ≡ d.column = eqb-true c.column d.column both.1 in
    ap (λ (n : ℕ). cell n c.column) rows ∙ ap (λ (n : ℕ). cell d.row n) columns
  where
    cell : ℕ → ℕ → Cell
    cell r n = record { row = r; column = n }

abbrev near : Area → Option Position → Bool
near a o = option_map_or (λ p. touches a (cell_of p)) o false

near-lies : (o : Option Position) (a : Area) (c : Cell) → lies c o ≡ true → touches a c ≡ true → near a o ≡ true
near-lies None a c here touched = absurd (false≢true here)
near-lies (Some p) a c here touched = ap (touches a) (sym (cells-same c (cell_of p) here)) ∙ touched

record Lying (a : Area) (o : Option Position) : Type 0 where
  at : Cell
  touched : touches a at ≡ true
  lies : lies at o ≡ true

lying : (o : Option Position) (a : Area) → near a o ≡ true → Lying a o
lying None a h = absurd (false≢true h)
lying (Some p) a h = record { at = cell_of p; touched = h; lies = and_from _ _ (eq-eqb (cell_of p).row (cell_of p).row refl) (eq-eqb (cell_of p).column (cell_of p).column refl) }

some_times : (b : Bool) (n : ℕ) → n ≡ (if b then 1 else 0) → 0 < n → b ≡ true
some_times true n e some = refl
some_times false n e some = absurd (omega (arith, e, some))

once : (b : Bool) (n : ℕ) → n ≡ (if b then 1 else 0) → b ≡ true → 0 < n
once b n e t = let one : n ≡ 1 = e ∙ ap (λ (b : Bool). if b then 1 else 0) t in omega (arith, one)

-- what a grid lists for an area that holds each visible node in its cell
pub near-is :
    (passing : (n : ℕ) (p : ℕ → Bool) (ids : List ℕ) → ((id : ℕ) → p id ≡ true → (0 < id) × (id ≤ n)) → IsStrictlyIncreasing ids → ((id : ℕ) → lists_id ids id ≡ p id) → ids ≡ filter p (ids_to n))
    (E : Elements) (g : List (List Held)) (a : Area) (ids : List ℕ)
    → IsPlaced E g
    → IsStrictlyIncreasing ids
    → ((n : ℕ) → lists_id ids n ≡ true → TouchedAt g a n)
    → ((c : Cell) (n : ℕ) → touches a c ≡ true → 0 < times g c n → lists_id ids n ≡ true)
    → ids ≡ nodes_near E a
near-is passing E g a ids placed up each all =
    passing (length E.nodes) (is_near E a) ids (λ n h. given-position E (key Node n) (λ p. touches a (cell_of p)) h) up
    (λ n. iff (lists_id ids n) (is_near E a n)
    (λ there. let t = each n there in
    near-lies (position E (key Node n)) a t.at (some_times (lies_in E t.at n) (times g t.at n) (placed.holds t.at n) t.placed) t.touched)
    (λ here. let l = lying (position E (key Node n)) a here in
    all l.at n l.touched (once (lies_in E l.at n) (times g l.at n) (placed.holds l.at n) l.lies)))

filter-filter : (p q : ℕ → Bool) → ((n : ℕ) → p n ≡ true → q n ≡ true) → (xs : List ℕ) → filter p (filter q xs) ≡ filter p xs
filter-filter p q weaker [] = refl
filter-filter p q weaker (x ∷ xs) =
    ⊎_elim
    (λ t. ap (λ (b : Bool). filter p (if b then x ∷ filter q xs else filter q xs)) t
    ∙ ap (λ (l : List ℕ). if p x then x ∷ l else l) (filter-filter p q weaker xs))
    (λ f. ap (λ (b : Bool). filter p (if b then x ∷ filter q xs else filter q xs)) f
    ∙ filter-filter p q weaker xs
    ∙ ap (λ (b : Bool). if b then x ∷ filter p xs else filter p xs) (sym (not_either (p x) (q x) (weaker x) f)))
    (cases_Bool (q x))
  where
    not_either : (a b : Bool) → (a ≡ true → b ≡ true) → b ≡ false → a ≡ false
    not_either true b h f = absurd (false≢true (sym f ∙ h refl))
    not_either false b h f = refl

-- the nodes in an area are among those near it
pub within-near :
    (touched : (a : Area) (p : Position) → IsArea a.left a.bottom a.right a.top → area_holds a p ≡ true → touches a (cell_of p) ≡ true)
    (E : Elements) (a : Area)
    → IsArea a.left a.bottom a.right a.top
    → filter (is_inside E a) (nodes_near E a) ≡ nodes_within E a
within-near touched E a is = filter-filter (is_inside E a) (is_near E a) (λ n h. at (position E (key Node n)) h) (ids_of E Node)
  where
    at : (o : Option Position) → option_map_or (area_holds a) o false ≡ true → near a o ≡ true
    at None h = absurd (false≢true h)
    at (Some p) h = touched a p is h
