-- The notes in the cells that a box touches.
use Rattle.std.proofs.Common.{◌≡◌, ℕ, zero, suc, ◌<◌, ◌≤◌, Bool, true, false, ⊎_elim, List, [], ◌∷◌, length, Option, Some, None, refl, sym, ap, ◌∙◌, arith}
use Rattle.std.specs.Prelude.{filter, if◌then◌else◌, slice_get}
use Rattle.std.specs.Option.{option_map_or}
use Rattle.std.specs.List.Sorted.{IsStrictlyIncreasing}
use Rattle.std.proofs.lemmas.Bool.{cases_Bool, false≢true, and_parts, and_from, eqb-true, eq-eqb}
use Rattle.osm_base.specs.Place.{Position, Area, IsArea, area_holds}
use Rattle.rising_lists.specs.Ids.{lists_id, ids_to}
use Rattle.tile_grid.specs.Cell.{cell_of, cell_eq, touches}
use Rattle.tile_grid.specs.Grid.{times, TouchedAt}
use Rattle.tile_grid.specs.Tile.{Held}
use Rattle.tile_grid.specs.declared.cells.Cell.{Cell}
use Rattle.notes_core.specs.Act.{note}
use Rattle.notes_core.specs.Near.{is_near, notes_near}
use Rattle.notes_core.specs.Search.{shows, is_shown, notes_within}
use Rattle.notes_core.specs.World.{places_of, lies_in, IsPlaced}
use Rattle.notes_core.specs.declared.notes.Note.{Note}
use Rattle.notes_core.specs.declared.notes.Notes.{Notes}
use Rattle.notes_core.proofs.Judged.{note_within, note-suc}
use Rattle.notes_core.proofs.Placed.{lies-suc}

iff : (p q : Bool) → (p ≡ true → q ≡ true) → (q ≡ true → p ≡ true) → p ≡ q
iff true q f g = sym (f refl)
iff false true f g = g refl
iff false false f g = refl

cells-same : (c d : Cell) → cell_eq c d ≡ true → c ≡ d
cells-same c d e =
    let both = and_parts _ _ e in
    let rows : c.row ≡ d.row = eqb-true c.row d.row both.0 in
    let columns : c.column ≡ d.column = eqb-true c.column d.column both.1 in
    ap (λ (n : ℕ). cell n c.column) rows ∙ ap (λ (n : ℕ). cell d.row n) columns
  where
    cell : ℕ → ℕ → Cell
    cell r n = record { row = r; column = n }

-- what is told of the note of a number, where there is one
abbrev told : (Note → Bool) → Option Note → Bool
told f o = option_map_or f o false

abbrev lies : Cell → Note → Bool
lies c n = cell_eq c (cell_of n.at)

places-told : (ns : List Note) (c : Cell) (i : ℕ) → option_map_or (λ p. cell_eq c (cell_of p)) (slice_get (places_of ns) i) false ≡ told (lies c) (slice_get ns i)
places-told [] c i = refl
places-told (n ∷ ns) c zero = refl
places-told (n ∷ ns) c (suc i) = places-told ns c i

-- the cells are told by the notes
lies-told : (S : Notes) (c : Cell) (id : ℕ) → lies_in (places_of S.notes) c id ≡ told (lies c) (note S id)
lies-told S c zero = refl
lies-told S c (suc i) = lies-suc (places_of S.notes) c i ∙ places-told S.notes c i ∙ ap (told (lies c)) (sym (note-suc S i))

near-lies : (o : Option Note) (a : Area) (c : Cell) → told (lies c) o ≡ true → touches a c ≡ true → told (λ n. touches a (cell_of n.at)) o ≡ true
near-lies None a c here touched = absurd (false≢true here)
near-lies (Some n) a c here touched = ap (touches a) (sym (cells-same c (cell_of n.at) here)) ∙ touched

record Lying (a : Area) (o : Option Note) : Type 0 where
  at : Cell
  touched : touches a at ≡ true
  lies : told (lies at) o ≡ true

lying : (o : Option Note) (a : Area) → told (λ n. touches a (cell_of n.at)) o ≡ true → Lying a o
lying None a h = absurd (false≢true h)
lying (Some n) a h = record {
  at = cell_of n.at;
  touched = h;
  lies = and_from _ _ (eq-eqb (cell_of n.at).row (cell_of n.at).row refl) (eq-eqb (cell_of n.at).column (cell_of n.at).column refl);
}

some_times : (b : Bool) (n : ℕ) → n ≡ (if b then 1 else 0) → 0 < n → b ≡ true
some_times true n e some = refl
some_times false n e some = absurd (omega (arith, e, some))

once : (b : Bool) (n : ℕ) → n ≡ (if b then 1 else 0) → b ≡ true → 0 < n
once b n e t = let one : n ≡ 1 = e ∙ ap (λ (b : Bool). if b then 1 else 0) t in omega (arith, one)

-- what is told of a number has a note
given : (S : Notes) (id : ℕ) (f : Note → Bool) → told f (note S id) ≡ true → (0 < id) × (id ≤ length S.notes)
given S id f h = go (note S id) refl h where
  go : (o : Option Note) → note S id ≡ o → told f o ≡ true → (0 < id) × (id ≤ length S.notes)
  go None is h = absurd (false≢true h)
  go (Some n) is h = note_within S id n is

-- what the cells list for a box
pub near-is :
    (passing : (n : ℕ) (p : ℕ → Bool) (ids : List ℕ) → ((id : ℕ) → p id ≡ true → (0 < id) × (id ≤ n)) → IsStrictlyIncreasing ids → ((id : ℕ) → lists_id ids id ≡ p id) → ids ≡ filter p (ids_to n))
    (S : Notes) (g : List (List Held)) (a : Area) (ids : List ℕ)
    → IsPlaced (places_of S.notes) g
    → IsStrictlyIncreasing ids
    → ((id : ℕ) → lists_id ids id ≡ true → TouchedAt g a id)
    → ((c : Cell) (id : ℕ) → touches a c ≡ true → 0 < times g c id → lists_id ids id ≡ true)
    → ids ≡ notes_near S a
near-is passing S g a ids placed up each all =
    passing (length S.notes) (is_near S a) ids (λ id h. given S id (λ n. touches a (cell_of n.at)) h) up
    (λ id. iff (lists_id ids id) (is_near S a id)
    (λ there. let t = each id there in
    near-lies (note S id) a t.at (some_times (told (lies t.at) (note S id)) (times g t.at id) (holds t.at id) t.placed) t.touched)
    (λ here. let l = lying (note S id) a here in
    all l.at id l.touched (once (told (lies l.at) (note S id)) (times g l.at id) (holds l.at id) l.lies)))
  where
    holds : (c : Cell) (id : ℕ) → times g c id ≡ if told (lies c) (note S id) then 1 else 0
    holds c id = placed.holds c id ∙ ap (λ (b : Bool). if b then 1 else 0) (lies-told S c id)

filter-filter : (p q : ℕ → Bool) → ((n : ℕ) → p n ≡ true → q n ≡ true) → (xs : List ℕ) → filter p (filter q xs) ≡ filter p xs
filter-filter p q weaker [] = refl
filter-filter p q weaker (x ∷ xs) =
    ⊎_elim
    (λ t. ap (λ (b : Bool). filter p (if b then x ∷ filter q xs else filter q xs)) t
    ∙ ap (λ (l : List ℕ). if p x then x ∷ l else l) (filter-filter p q weaker xs))
    (λ f. ap (λ (b : Bool). filter p (if b then x ∷ filter q xs else filter q xs)) f
    ∙ filter-filter p q weaker xs
    ∙ ap (λ (b : Bool). if b then x ∷ filter p xs else filter p xs) (sym (not_either (p x) (q x) (weaker x) f)))
    (cases_Bool (q x))
  where
    not_either : (a b : Bool) → (a ≡ true → b ≡ true) → b ≡ false → a ≡ false
    not_either true b h f = absurd (false≢true (sym f ∙ h refl))
    not_either false b h f = refl

-- the notes in a box are among those near it
pub within-near :
    (touched : (a : Area) (p : Position) → IsArea a.left a.bottom a.right a.top → area_holds a p ≡ true → touches a (cell_of p) ≡ true)
    (S : Notes) (a : Area) (closed : Bool)
    → IsArea a.left a.bottom a.right a.top
    → filter (is_shown S a closed) (notes_near S a) ≡ notes_within S a closed
within-near touched S a closed is = filter-filter (is_shown S a closed) (is_near S a) (λ id h. at (note S id) h) (ids_to (length S.notes))
  where
    at : (o : Option Note) → told (shows a closed) o ≡ true → told (λ n. touches a (cell_of n.at)) o ≡ true
    at None h = absurd (false≢true h)
    at (Some n) h = touched a n.at is (and_parts _ _ h).0
