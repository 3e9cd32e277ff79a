-- The bound placeholders are those of the creates before.
use Rattle.std.proofs.Common.{◌≡◌, inl, inr, ℕ, suc, ◌+◌, ◌<◌, ◌≤◌, Bool, true, false, cond, not, ◌&&◌, ltb, eqb, List, [], ◌∷◌, ◌++◌, length, Option, Some, None, ℤ, refl, sym, ap, ◌∙◌, arith}
use Rattle.std.specs.Prelude.{position}
use Rattle.std.specs.List.{position_or_len}
use Rattle.std.specs.Ordering.{int_eq}
use Rattle.std.proofs.lemmas.Bool.{cond-true, cond-false, lt-ltb, le-ltb, eq-eqb, ne_eqb, cases_lt}
use Rattle.std.proofs.lemmas.List.{length-append}
use Rattle.std.proofs.lemmas.List.Folds.{position_or_len_push}
use Rattle.osm_base.specs.Key.{kind_eq}
use Rattle.osm_base.specs.declared.keys.Kind.{Kind}
use Rattle.osm_base.specs.declared.keys.Kind.TheVariants.{Node, Way, Relation}
use Rattle.placeholder_map.specs.Bindings.{Bindings, place_in, is_bound_in, with_binding}
use Rattle.placeholder_map.specs.Placeholders.{Placeholders, look_of, is_bound, bound}
use Rattle.osm_change.specs.Build.{Look, is_create, creates, created_at, noted}
use Rattle.osm_change.specs.declared.raw.RawOp.{RawOp}

abbrev pub or_else : {A : Type 0} → Option A → Option A → Option A
or_else None later = later
or_else (Some a) later = Some a

or_else-None : {A : Type 0} (o : Option A) → o ≡ or_else o None
or_else-None None = refl
or_else-None (Some a) = refl

some_if : {A : Type 0} → Bool → A → Option A
some_if b a = cond b (Some a) None

lookup-push : (es : Bindings) (id : ℤ) (place : ℕ) (p : ℤ) → place_in (es ++ (id, place) ∷ []) p ≡ or_else (place_in es p) (cond (int_eq p id) (Some place) None)
lookup-push [] id place p = refl
lookup-push ((q, n) ∷ es) id place p = at (lookup-push es id place p) (int_eq p q)
  where
    at : place_in (es ++ (id, place) ∷ []) p ≡ or_else (place_in es p) (cond (int_eq p id) (Some place) None) → (b : Bool) → cond b (Some n) (place_in (es ++ (id, place) ∷ []) p) ≡ or_else (cond b (Some n) (place_in es p)) (cond (int_eq p id) (Some place) None)
    at rest true = refl
    at rest false = rest

with_binding-push : (es : Bindings) (id : ℤ) (place : ℕ) (p : ℤ) → is_bound_in es id ≡ false → place_in (with_binding es id place) p ≡ or_else (place_in es p) (cond (int_eq p id) (Some place) None)
with_binding-push es id place p free =
    ap (λ b. place_in (cond b es (es ++ (id, place) ∷ [])) p) free ∙ lookup-push es id place p

pub look-bound : (m : Placeholders) (k : Kind) (id : ℤ) (place : ℕ) → is_bound m k id ≡ false → (kind : Kind) (p : ℤ) → look_of (bound m k id place) kind p ≡ or_else (look_of m kind p) (cond (kind_eq k kind && int_eq p id) (Some place) None)
look-bound m Node id place free Node p = with_binding-push m.nodes id place p free
look-bound m Node id place free Way p = or_else-None (look_of m Way p)
look-bound m Node id place free Relation p = or_else-None (look_of m Relation p)
look-bound m Way id place free Node p = or_else-None (look_of m Node p)
look-bound m Way id place free Way p = with_binding-push m.ways id place p free
look-bound m Way id place free Relation p = or_else-None (look_of m Relation p)
look-bound m Relation id place free Node p = or_else-None (look_of m Node p)
look-bound m Relation id place free Way p = or_else-None (look_of m Way p)
look-bound m Relation id place free Relation p = with_binding-push m.relations id place p free

-- where an item before the new one passes
place-before : (n len m : ℕ) (later : Option ℕ) → n < len → m ≡ n → cond (ltb m (len + 1)) (Some m) None ≡ or_else (cond (ltb n len) (Some n) None) later
place-before n len m later lt same =
    cond-true (ltb m (len + 1)) (Some m) None (lt-ltb m (len + 1) (omega arith))
    ∙ ap Some same
    ∙ sym (ap (λ o. or_else o later) (cond-true (ltb n len) (Some n) None (lt-ltb n len lt)))

-- where none before it does
place-last : (n len : ℕ) (b : Bool) (m : ℕ) → n ≡ len → m ≡ len + cond b 0 1 → cond (ltb m (len + 1)) (Some m) None ≡ or_else (cond (ltb n len) (Some n) None) (cond b (Some len) None)
place-last n len true m at e =
    let same : m ≡ len = omega arith in
    cond-true (ltb m (len + 1)) (Some m) None (lt-ltb m (len + 1) (omega arith))
    ∙ ap Some same
    ∙ sym (ap (λ o. or_else o (Some len)) (cond-false (ltb n len) (Some n) None (le-ltb n len (omega arith))))
place-last n len false m at e =
    cond-false (ltb m (len + 1)) (Some m) None (le-ltb m (len + 1) (omega arith))
    ∙ sym (ap (λ o. or_else o None) (cond-false (ltb n len) (Some n) None (le-ltb n len (omega arith))))

place-step : (n len : ℕ) (b : Bool) (m : ℕ) → n ≤ len → m ≡ cond (eqb n len) (len + cond b 0 1) n → cond (ltb m (len + 1)) (Some m) None ≡ or_else (cond (ltb n len) (Some n) None) (cond b (Some len) None)
place-step n len b m le e = elim (cases_lt n len) [
  | inl lt ↦ place-before n len m (cond b (Some len) None) lt (e ∙ cond-false (eqb n len) (len + cond b 0 1) n (ne_eqb n len (λ same. omega arith)))
  | inr past ↦ let same : n ≡ len = omega arith in place-last n len b m same (e ∙ cond-true (eqb n len) (len + cond b 0 1) n (eq-eqb n len same))
]

place-within : {A : Type 0} (test : A → Bool) (xs : List A) → position_or_len test xs ≤ length xs
place-within test [] = omega arith
place-within test (x ∷ xs) = at (place-within test xs) (test x)
  where
    at : position_or_len test xs ≤ length xs → (b : Bool) → cond (not b) (1 + position_or_len test xs) 0 ≤ suc (length xs)
    at le true = omega arith
    at le false = omega arith

pub position-push : {A : Type 0} (test : A → Bool) (xs : List A) (x : A) → position test (xs ++ x ∷ []) ≡ or_else (position test xs) (cond (test x) (Some (length xs)) None)
position-push test xs x =
    let more : length (xs ++ x ∷ []) ≡ length xs + 1 = length-append xs (x ∷ []) in
    let step = position_or_len_push test xs x in
    ap (λ len. cond (ltb (position_or_len test (xs ++ x ∷ [])) len) (Some (position_or_len test (xs ++ x ∷ []))) None) more
    ∙ place-step (position_or_len test xs) (length xs) (test x) (position_or_len test (xs ++ x ∷ [])) (place-within test xs) step

look-noted : (m : Placeholders) (r : RawOp) (place : ℕ) (creating : Bool) → (creating ≡ true → is_bound m r.kind r.id ≡ false) → (kind : Kind) (p : ℤ) → look_of (cond creating (bound m r.kind r.id place) m) kind p ≡ or_else (look_of m kind p) (cond (creating && (kind_eq r.kind kind && int_eq p r.id)) (Some place) None)
look-noted m r place true free kind p = look-bound m r.kind r.id place (free refl) kind p
look-noted m r place false free kind p = or_else-None (look_of m kind p)

-- the placeholders after one more operation
pub looks-step : (m : Placeholders) (before : List RawOp) (r : RawOp) (place : ℕ) → look_of m ≡ created_at before → length before ≡ place → (is_create r.action ≡ true → is_bound m r.kind r.id ≡ false) → look_of (noted m r place) ≡ created_at (before ++ r ∷ [])
looks-step m before r place looks count free = λ i. λ kind p. at kind p i
  where
    at : (kind : Kind) (p : ℤ) → look_of (noted m r place) kind p ≡ created_at (before ++ r ∷ []) kind p
    at kind p =
        look-noted m r place (is_create r.action) free kind p
        ∙ ap (λ (look : Look). or_else (look kind p) (cond (creates kind p r) (Some place) None)) looks
        ∙ ap (λ n. or_else (created_at before kind p) (cond (creates kind p r) (Some n) None)) (sym count)
        ∙ sym (position-push (creates kind p) before r)
