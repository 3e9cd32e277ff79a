-- A history up to a stamp: its front, and the history of the map as it was.
use Rattle.std.proofs.Common.{◌≡◌, ℕ, zero, suc, ◌-◌, Bool, true, false, List, [], ◌∷◌, length, get_or, take, refl, sym, ap, ◌∙◌, arith}
use Rattle.std.specs.Prelude.{◌==◌, cond, if◌then◌else◌, filter}
use Rattle.std.specs.List.{AllWithin}
use Rattle.osm_base.specs.declared.keys.Key.{Key}
use Rattle.osm_base.specs.declared.keys.Kind.{Kind}
use Rattle.osm_base.specs.declared.keys.Kind.TheVariants as kind
use Rattle.osm_element.specs.Elements.{histories, history_in, history}
use Rattle.osm_element.specs.declared.elements.Elements.{Elements}
use Rattle.osm_element.specs.Version.{Version}
use Rattle.osm_model.specs.Past.{made_by, before_others, histories_by, elements_by}

-- none passes the test
none-pass : {X : Type 0} (p : X → Bool) (xs : List X) → AllWithin (λ y. p y ≡ false) xs 0 (length xs) → filter p xs ≡ []
none-pass p [] fails = refl
none-pass p (x ∷ xs) fails =
    ap (λ (b : Bool). cond b (x ∷ filter p xs) (filter p xs)) (fails 0 x (omega arith) (omega arith))
    ∙ none-pass p xs (λ k d low high. fails (suc k) d (omega arith) (omega (arith, high)))

-- where those that pass stand before those that don't, they are the front
pub front-passes :
    {X : Type 0} (p : X → Bool) (xs : List X) (i : ℕ)
    → AllWithin (λ y. p y ≡ true) xs 0 i
    → AllWithin (λ y. p y ≡ false) xs i (length xs)
    → take i xs ≡ filter p xs
front-passes p [] zero passes fails = refl
front-passes p [] (suc i) passes fails = refl
front-passes p (x ∷ xs) zero passes fails = sym (none-pass p (x ∷ xs) fails)
front-passes {X = X} p (x ∷ xs) (suc i) passes fails =
    ap (λ (l : List X). x ∷ l) (front-passes p xs i
    (λ k d low high. passes (suc k) d (omega arith) (omega (arith, high)))
    (λ k d low high. fails (suc k) d (omega (arith, low)) (omega (arith, high))))
    ∙ ap (λ (b : Bool). cond b (x ∷ filter p xs) (filter p xs)) (sym (passes 0 x (omega arith) (omega arith)))

first-at : (vs : List Version) (hs : List (List Version)) → get_or (before_others vs hs) 0 [] ≡ vs
first-at [] [] = refl
first-at [] (h ∷ hs) = refl
first-at (v ∷ vs) hs = refl

other-at : (vs : List Version) (hs : List (List Version)) (i : ℕ) → get_or (before_others vs hs) (suc i) [] ≡ get_or hs i []
other-at [] [] i = refl
other-at [] (h ∷ hs) i = refl
other-at (v ∷ vs) hs i = refl

by-at : (t : ℕ) (hs : List (List Version)) (i : ℕ) → get_or (histories_by t hs) i [] ≡ made_by t (get_or hs i [])
by-at t [] i = refl
by-at t (h ∷ hs) zero = first-at (made_by t h) (histories_by t hs)
by-at t (h ∷ hs) (suc i) = other-at (made_by t h) (histories_by t hs) i ∙ by-at t hs i

by-in : (t : ℕ) (hs : List (List Version)) (id : ℕ) → history_in (histories_by t hs) id ≡ made_by t (history_in hs id)
by-in t hs id = along (id == 0)
  where
    along : (b : Bool) → (if b then [] else get_or (histories_by t hs) (id - 1) []) ≡ made_by t (if b then [] else get_or hs (id - 1) [])
    along true = refl
    along false = by-at t hs (id - 1)

-- the history of an element as it was
pub history-by : (t : ℕ) (E : Elements) (k : Key) → history (elements_by t E) k ≡ made_by t (history E k)
history-by t E k = along k.kind
  where
    along : (kind : Kind) → history_in (histories (elements_by t E) kind) k.id ≡ made_by t (history_in (histories E kind) k.id)
    along kind.Node = by-in t E.nodes k.id
    along kind.Way = by-in t E.ways k.id
    along kind.Relation = by-in t E.relations k.id
