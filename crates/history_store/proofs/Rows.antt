-- One row of a shelf changes.
use Rattle.std.proofs.Common.{◌≡◌, ℕ, ◌+◌, ◌-◌, ◌<◌, ◌≤◌, zero, suc, subst, Bool, true, false, ⊎_elim, Option, Some, None, List, [], ◌∷◌, ◌++◌, length, get_or, take, set, map, refl, sym, ap, ◌∙◌, arith}
use Rattle.std.specs.Prelude.{slice_get, slice_index, slice_index_or, slice_set, ◌==◌, if◌then◌else◌}
use Rattle.std.proofs.lemmas.List.{map-append, map-set, get_or-map, length-map, length-take, get_or-take, get_or-set_same, get_or-set_other, take-map}
use Rattle.std.proofs.lemmas.Bool.{eqb-true}
use Rattle.std.proofs.lemmas.Bool.{cases_Bool}
use Rattle.std.proofs.Math.Seq.{take-set-lt, map-set_same}
use Rattle.std.specs.Option.{option_map_or, option_map, unwrap_or}
use Rattle.std.proofs.lemmas.Option.{get_or_from_slice_get, slice_get-map, unwrap_or-slice_get}
use Rattle.std.proofs.lemmas.Bool.Decides.{nat_tests}
use Rattle.osm_base.specs.Row.{Row}
use Rattle.osm_element.specs.Version.{Version}
use Rattle.osm_element.specs.Elements.{add_version, mark_in}
use Rattle.history_store.specs.Shelf.{HasMore, IsShelf, Shelved, shelved}

abbrev items : Row Version → List Version
items r = r.items

abbrev frees : Row Version → ℕ
frees r = r.free

-- a place with room has a row
has_row : (rows : List (Row Version)) (place : ℕ) → 0 < slice_index (map frees rows) place → place < length rows
has_row [] place some = absurd (omega arith)
has_row (r ∷ rows) zero some = grind arith
has_row (r ∷ rows) (suc place) some = let h = has_row rows place some in grind (arith, h)

-- a row that is found at a place stands there
pub found : (rows : List (Row Version)) (place : ℕ) (old : Row Version) → slice_get rows place ≡ Some old → old ≡ get_or rows place old
found rows place old there = sym (get_or_from_slice_get rows place old old there)

-- no room where there is no row
pub none_free : (rows : List (Row Version)) (used place : ℕ) (s : Shelved) → shelved rows used ≡ s → slice_get rows place ≡ None → slice_index s.free place ≡ 0
none_free rows used place s view none =
    ap (λ (s : Shelved). slice_index s.free place) (sym view)
    ∙ sym (unwrap_or-slice_get (map frees rows) place 0)
    ∙ ap (λ (o : Option ℕ). unwrap_or o 0) (slice_get-map frees rows place ∙ ap (option_map frees) none)

-- the room of one place changes
pub frees_set :
    (rows : List (Row Version)) (used place : ℕ) (s : Shelved) (new : Row Version)
    → shelved rows used ≡ s
    → map (λ r. r.free) (set rows place new) ≡ set s.free place new.free
frees_set rows used place s new view = map-set frees rows place new ∙ ap (λ (f : List ℕ). set f place new.free) (ap (λ (s : Shelved). s.free) view)

-- what a place's room was
frees_at :
    (rows : List (Row Version)) (used place : ℕ) (s : Shelved) (old : Row Version)
    → shelved rows used ≡ s
    → place < length rows
    → old ≡ get_or rows place old
    → slice_index s.free place ≡ old.free
frees_at rows used place s old view within was =
    ap (λ (s : Shelved). slice_index s.free place) (sym view) ∙ get_or-map frees rows place old 0 within ∙ ap frees (sym was)

set_more : (f : List ℕ) (place more : ℕ) → place < length f → HasMore f (set f place (slice_index f place + more)) place more
set_more f place more within i =
    ⊎_elim
    (λ t. let here : i ≡ place = eqb-true i place t in
    ap (λ (n : ℕ). slice_index (set f place (slice_index f place + more)) n) here
    ∙ get_or-set_same f place (slice_index f place + more) 0 within
    ∙ ap (λ (n : ℕ). slice_index f n + more) (sym here)
    ∙ ap (λ (b : Bool). slice_index f i + (if b then more else 0)) (sym t))
    (λ other. get_or-set_other f place i (slice_index f place + more) 0 (apart i place other)
    ∙ add-none (slice_index f i)
    ∙ ap (λ (b : Bool). slice_index f i + (if b then more else 0)) (sym other))
    (cases_Bool (i == place))
  where
    apart : (m n : ℕ) → (m == n) ≡ false → m ≡ n → ⊥
    apart m n f e = grind (arith, nat_tests)

    add-none : (n : ℕ) → n ≡ n + 0
    add-none n = omega arith

rows_counted :
    (rows : List (Row Version)) (used place : ℕ) (s : Shelved)
    → shelved rows used ≡ s
    → place < length s.free
    → place < length rows
rows_counted rows used place s view within =
    let long : length s.free ≡ length rows = ap (λ (s : Shelved). length s.free) (sym view) ∙ length-map rows frees in
    omega (arith, long, within)

-- more room at a place
pub frees_more :
    (rows : List (Row Version)) (used place more : ℕ) (s : Shelved) (old new : Row Version)
    → shelved rows used ≡ s
    → place < length s.free
    → old ≡ get_or rows place old
    → new.free ≡ old.free + more
    → HasMore s.free (map (λ r. r.free) (set rows place new)) place more
frees_more rows used place more s old new view within was grown =
    let there = frees_at rows used place s old view (rows_counted rows used place s view within) was in
    let P : List ℕ → Type 0 = λ f. HasMore s.free f place more in
    subst P
    (sym (frees_set rows used place s new view ∙ ap (set s.free place) (grown ∙ ap (λ (n : ℕ). n + more) (sym there))))
    (set_more s.free place more within)

-- the room stays where the row's does
pub frees_same :
    (rows : List (Row Version)) (used place : ℕ) (s : Shelved) (old new : Row Version)
    → shelved rows used ≡ s
    → old ≡ get_or rows place old
    → new.free ≡ old.free
    → map (λ r. r.free) (set rows place new) ≡ s.free
frees_same rows used place s old new view was same =
    map-set_same frees rows place new old (same ∙ ap frees was) ∙ ap (λ (s : Shelved). s.free) view

-- the histories stay where the row's items do
pub histories_same :
    (rows : List (Row Version)) (used place : ℕ) (s : Shelved) (old new : Row Version)
    → shelved rows used ≡ s
    → old ≡ get_or rows place old
    → new.items ≡ old.items
    → map (λ r. r.items) (take used (set rows place new)) ≡ s.histories
histories_same rows used place s old new view was same =
    sym (take-map items used (set rows place new))
    ∙ ap (take used) (map-set_same items rows place new old (same ∙ ap items was))
    ∙ take-map items used rows
    ∙ ap (λ (s : Shelved). s.histories) view

-- one history changes
pub histories_set :
    (rows : List (Row Version)) (used place : ℕ) (s : Shelved) (old new : Row Version) (change : List Version → List Version)
    → shelved rows used ≡ s
    → used ≤ length rows
    → place < length s.histories
    → old ≡ get_or rows place old
    → new.items ≡ change old.items
    → map (λ r. r.items) (take used (set rows place new)) ≡ set s.histories place (change (slice_index_or s.histories place []))
histories_set rows used place s old new change view within reached was changed =
    let hs : map items (take used rows) ≡ s.histories = ap (λ (s : Shelved). s.histories) view in
    let many : length (map items (take used rows)) ≡ used = omega (arith, length-map (take used rows) items, length-take used rows) in
    let kept : length s.histories ≡ used = sym (ap length hs) ∙ many in
    let below : place < used = omega (arith, kept, reached) in
    let there : get_or (map items (take used rows)) place [] ≡ old.items
    = get_or-map items (take used rows) place old [] (omega (arith, length-take used rows)) ∙ ap items (get_or-take used rows place old below ∙ sym was) in
    ap (map items) (take-set-lt used rows place new below)
    ∙ map-set items (take used rows) place new
    ∙ ap (set (map items (take used rows)) place) (changed ∙ ap change (sym there))
    ∙ ap (λ (hs : List (List Version)). set hs place (change (slice_index_or hs place []))) hs

longer :
    (hs : List (List Version)) (place : ℕ) (v : Version)
    → place < length hs
    → set hs place (slice_index_or hs place [] ++ v ∷ []) ≡ add_version hs place v
longer hs place v below =
    let other : (place == length hs) ≡ false = grind (arith, nat_tests) in
    ap (λ (b : Bool). if b then hs ++ (v ∷ []) ∷ [] else slice_set hs place (slice_index_or hs place [] ++ v ∷ [])) (sym other)

pub histories_longer :
    (rows : List (Row Version)) (used place : ℕ) (s : Shelved) (old new : Row Version) (v : Version)
    → shelved rows used ≡ s
    → used ≤ length rows
    → place ≤ length s.histories
    → (place ≡ used → ⊥)
    → old ≡ get_or rows place old
    → new.items ≡ old.items ++ v ∷ []
    → map (λ r. r.items) (take used (set rows place new)) ≡ add_version s.histories place v
histories_longer rows used place s old new v view within reached other was more =
    let kept : length s.histories ≡ used
    = ap (λ (s : Shelved). length s.histories) (sym view) ∙ length-map (take used rows) items ∙ length-take used rows ∙ omega (arith, within) in
    let below : place < length s.histories = omega (arith, kept, reached, other) in
    histories_set rows used place s old new (λ vs. vs ++ v ∷ []) view within below was more ∙ longer s.histories place v below

take_set_at : (rows : List (Row Version)) (place : ℕ) (new : Row Version) → place < length rows → take (suc place) (set rows place new) ≡ take place rows ++ new ∷ []
take_set_at [] place new within = absurd (omega arith)
take_set_at (r ∷ rows) zero new within = refl
take_set_at (r ∷ rows) (suc place) new within = ap (λ (rs : List (Row Version)). r ∷ rs) (take_set_at rows place new (omega arith))

-- the next element gets its first version
pub histories_new :
    (rows : List (Row Version)) (used place : ℕ) (s : Shelved) (old new : Row Version) (v : Version)
    → shelved rows used ≡ s
    → IsShelf rows used
    → 0 < slice_index s.free place
    → place ≡ used
    → old ≡ get_or rows place old
    → new.items ≡ old.items ++ v ∷ []
    → map (λ r. r.items) (take (used + 1) (set rows place new)) ≡ add_version s.histories place v
histories_new rows used place s old new v view shelf room next was more =
    let within : place < length rows = has_row rows place (let P : Shelved → Type 0 = λ s. 0 < slice_index s.free place in subst P (sym view) room) in
    let first : old.items ≡ [] = ap items was ∙ shelf.waiting place old (omega (arith, next)) within in
    let kept : length s.histories ≡ used
    = ap (λ (s : Shelved). length s.histories) (sym view) ∙ length-map (take used rows) items ∙ length-take used rows ∙ (let w = shelf.within in omega (arith, w)) in
    let count : used + 1 ≡ suc place = omega (arith, next) in
    let last : (place == length s.histories) ≡ true = let e = next ∙ sym kept in grind (arith, nat_tests, e) in
    ap (λ (n : ℕ). map items (take n (set rows place new))) count
    ∙ ap (map items) (take_set_at rows place new within)
    ∙ map-append items (take place rows) (new ∷ [])
    ∙ ap (λ (n : ℕ). map items (take n rows) ++ new.items ∷ []) next
    ∙ ap (λ (vs : List Version). map items (take used rows) ++ vs ∷ []) (more ∙ ap (λ (vs : List Version). vs ++ v ∷ []) first)
    ∙ ap (λ (s : Shelved). s.histories ++ (v ∷ []) ∷ []) view
    ∙ ap (λ (b : Bool). if b then s.histories ++ (v ∷ []) ∷ [] else slice_set s.histories place (slice_index_or s.histories place [] ++ v ∷ [])) (sym last)

marked :
    (vs : List Version) (i : ℕ) (v hidden : Version) (redaction : Option ℕ)
    → slice_get vs i ≡ Some v
    → set (set vs i hidden) i (record v { redaction = redaction }) ≡ option_map_or (λ (v : Version). set vs i (record v { redaction = redaction })) (slice_get vs i) vs
marked vs i v hidden redaction there =
    set_set vs i hidden (record v { redaction = redaction })
    ∙ ap (λ (o : Option Version). option_map_or (λ (v : Version). set vs i (record v { redaction = redaction })) o vs) (sym there)
  where
    set_set : (vs : List Version) (i : ℕ) (a b : Version) → set (set vs i a) i b ≡ set vs i b
    set_set [] i a b = refl
    set_set (v ∷ vs) zero a b = refl
    set_set (v ∷ vs) (suc i) a b = ap (λ (ws : List Version). v ∷ ws) (set_set vs i a b)

pub marked_in :
    (vs : List Version) (n : ℕ) (v hidden : Version) (redaction : Option ℕ)
    → 0 < n
    → slice_get vs (n - 1) ≡ Some v
    → set (set vs (n - 1) hidden) (n - 1) (record v { redaction = redaction }) ≡ mark_in vs n redaction
marked_in vs n v hidden redaction counted there =
    let some : (n == 0) ≡ false = grind (arith, nat_tests) in
    marked vs (n - 1) v hidden redaction there
    ∙ ap (λ (b : Bool). option_map_or (λ (v : Version). set vs (n - 1) (record v { redaction = redaction })) (if b then None else slice_get vs (n - 1)) vs) (sym some)

abbrev pub with_items : Row Version → List Version → Row Version
with_items r vs = record r { items = vs }

set_less : (f : List ℕ) (place less : ℕ) → place < length f → less ≤ slice_index f place → HasMore (set f place (slice_index f place - less)) f place less
set_less f place less within promised i =
    let n = slice_index f place - less in
    ⊎_elim
    (λ t. let here : i ≡ place = eqb-true i place t in
    let now : slice_index (set f place n) i ≡ n = ap (λ (j : ℕ). slice_index (set f place n) j) here ∙ get_or-set_same f place n 0 within in
    let was : slice_index f i ≡ slice_index f place = ap (slice_index f) here in
    let sum : slice_index f i ≡ slice_index (set f place n) i + less = omega (arith, now, was, promised) in
    sum ∙ ap (λ (b : Bool). slice_index (set f place n) i + (if b then less else 0)) (sym t))
    (λ other. let same : slice_index (set f place n) i ≡ slice_index f i = get_or-set_other f place i n 0 (apart i place other) in
    let sum : slice_index f i ≡ slice_index (set f place n) i + 0 = omega (arith, same) in
    sum ∙ ap (λ (b : Bool). slice_index (set f place n) i + (if b then less else 0)) (sym other))
    (cases_Bool (i == place))
  where
    apart : (m n : ℕ) → (m == n) ≡ false → m ≡ n → ⊥
    apart m n f e = grind (arith, nat_tests)

-- less room at a place
pub frees_less :
    (rows : List (Row Version)) (used place less : ℕ) (s : Shelved) (old new : Row Version)
    → shelved rows used ≡ s
    → 0 < less
    → less ≤ slice_index s.free place
    → old ≡ get_or rows place old
    → new.free ≡ old.free - less
    → HasMore (map (λ r. r.free) (set rows place new)) s.free place less
frees_less rows used place less s old new view some promised was shrunk =
    let within : place < length rows
    = has_row rows place (let P : Shelved → Type 0 = λ s. 0 < slice_index s.free place in subst P (sym view) (omega (arith, some, promised))) in
    let long : length s.free ≡ length rows = ap (λ (s : Shelved). length s.free) (sym view) ∙ length-map rows frees in
    let there = frees_at rows used place s old view within was in
    let P : List ℕ → Type 0 = λ f. HasMore f s.free place less in
    subst P
    (sym (frees_set rows used place s new view ∙ ap (set s.free place) (shrunk ∙ ap (λ (n : ℕ). n - less) (sym there))))
    (set_less s.free place less (omega (arith, within, long)) promised)
