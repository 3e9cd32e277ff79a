-- A walk along a list in order: what is listed so far, and what of it another list has not.
use Rattle.std.proofs.Common.{◌≡◌, ℕ, zero, suc, ◌+◌, ◌<◌, ◌≤◌, Bool, true, false, ◌||◌, ◌&&◌, refl, sym, ap, ap₂, ◌∙◌, subst, arith, ⊎_elim, Some, None, List, [], ◌∷◌, length, take, get_or}
use Rattle.std.specs.Prelude.{Option, not, if◌then◌else◌}
use Rattle.std.proofs.lemmas.Bool.{cases_Bool, and_parts}
use Rattle.std.proofs.lemmas.List.{take_all}
use Rattle.std.proofs.lemmas.List.Folds.{list_any_more}
use Rattle.std.proofs.lemmas.Option.{none-some}
use Rattle.osm_base.specs.Key.{key_eq, key_lt, lists_key, IsAfter, IsRising}
use Rattle.osm_base.specs.declared.keys.Key.{Key}
use Rattle.osm_base.proofs.KeyOrder.{key_eq-same, key_eq-refl, key_eq-sym}
use Rattle.osm_base.proofs.KeyLists.{rising-fresh}
use Rattle.osm_element.specs.declared.elements.Elements.{Elements}
use Rattle.osm_later.specs.Still.{first_apart}
use Rattle.upload_check.specs.Overlay.{Notes}
use Rattle.upload_check.specs.Effects.{user_counts}
use Rattle.upload_check.specs.Shifts.{HasOne, IsReady, AreReady, IsShifted, apart, unless}
use Rattle.upload_check.specs.declared.shifts.Shift.{Shift}
use Rattle.upload_check.proofs.Shifted.{shifted_ext, shifted_none, shifted_not, shifted_then, ready_kept}

-- ---- the first keys of a list in order

after-take : (k : Key) (xs : List Key) (n : ℕ) → IsAfter k xs → IsAfter k (take n xs)
after-take k xs zero after = tt
after-take k [] (suc n) after = tt
after-take k (x ∷ xs) (suc n) after = (after.0, after-take k xs n after.1)

pub rising_take : (xs : List Key) (n : ℕ) → IsRising xs → IsRising (take n xs)
rising_take xs zero up = tt
rising_take [] (suc n) up = tt
rising_take (x ∷ xs) (suc n) up = (after-take x xs n up.0, rising_take xs n up.1)

-- ---- a key that stands at a place

lists-at : (ks : List Key) (i : ℕ) (d : Key) → i < length ks → lists_key ks (get_or ks i d) ≡ true
lists-at [] i d within = absurd (omega (arith, within))
lists-at (x ∷ xs) zero d within = ap (λ (p : Bool). p || lists_key xs x) (key_eq-refl x)
lists-at (x ∷ xs) (suc i) d within =
    ap (λ (p : Bool). key_eq x (get_or xs i d) || p) (lists-at xs i d (omega (arith, within))) ∙ or-true (key_eq x (get_or xs i d))
  where
    or-true : (p : Bool) → (p || true) ≡ true
    or-true true = refl
    or-true false = refl

pub at_listed : (ks : List Key) (i : ℕ) (d k : Key) → i < length ks → key_eq (get_or ks i d) k ≡ true → lists_key ks k ≡ true
at_listed ks i d k within same = ap (lists_key ks) (sym (key_eq-same (get_or ks i d) k same)) ∙ lists-at ks i d within

-- ---- what is listed so far, and not by the other list

-- what comes next stays as it is if the other list has it, or it is the user itself
abbrev pub stays : Key → List Key → Key → Bool
stays k left c = lists_key left c || key_eq k c

pub apart_start : (k : Key) (ks left : List Key) (b : Key) → apart k (take 0 ks) left b ≡ false
apart_start k ks left b = refl

pub apart_next :
    (k : Key) (ks left : List Key) (i : ℕ) (d b : Key)
    → i < length ks
    → (apart k (take i ks) left b || unless (stays k left (get_or ks i d)) (get_or ks i d) b) ≡ apart k (take (i + 1) ks) left b
apart_next k ks left i d b within =
    ap (λ (p : Bool). apart k (take i ks) left b || p) here
    ∙ sym (spread (lists_key (take i ks) b) (key_eq (get_or ks i d) b) (not (key_eq k b)) (not (lists_key left b)))
    ∙ ap (λ (p : Bool). (p && not (key_eq k b)) && not (lists_key left b)) (sym (list_any_more (λ (x : Key). key_eq x b) ks i d within))
  where
    c : Key
    c = get_or ks i d

    spread : (p q r s : Bool) → (((p || q) && r) && s) ≡ (((p && r) && s) || ((q && r) && s))
    spread true true true true = refl
    spread true true true false = refl
    spread true true false s = refl
    spread true false true true = refl
    spread true false true false = refl
    spread true false false s = refl
    spread false q r s = refl

    negated : (p q : Bool) → not (p || q) ≡ (not q && not p)
    negated true true = refl
    negated true false = refl
    negated false true = refl
    negated false false = refl

    here : unless (stays k left c) c b ≡ ((key_eq c b && not (key_eq k b)) && not (lists_key left b))
    here =
        ⊎_elim
        (λ t. let same : b ≡ c = key_eq-same b c t in
        ap (λ (p : Bool). p && not (stays k left c)) t
        ∙ negated (lists_key left c) (key_eq k c)
        ∙ ap (λ (x : Key). not (key_eq k x) && not (lists_key left x)) (sym same)
        ∙ ap (λ (p : Bool). (p && not (key_eq k b)) && not (lists_key left b)) (sym (key_eq-sym c b ∙ t)))
        (λ f. ap (λ (p : Bool). p && not (stays k left c)) f
        ∙ ap (λ (p : Bool). (p && not (key_eq k b)) && not (lists_key left b)) (sym (key_eq-sym c b ∙ f)))
        (cases_Bool (key_eq b c))

-- no key of a list in order comes twice
apart-fresh : (k : Key) (ks left : List Key) (i : ℕ) (d : Key) → i < length ks → IsRising ks → apart k (take i ks) left (get_or ks i d) ≡ false
apart-fresh k ks left i d within up = ap (λ (p : Bool). (p && not (key_eq k (get_or ks i d))) && not (lists_key left (get_or ks i d))) (rising-fresh ks i d up within)

-- what comes next is of those, unless it stays as it is
apart-here : (k : Key) (ks left : List Key) (i : ℕ) (d : Key) → i < length ks → stays k left (get_or ks i d) ≡ false → apart k ks left (get_or ks i d) ≡ true
apart-here k ks left i d within goes =
    ap (λ (p : Bool). (p && not (key_eq k (get_or ks i d))) && not (lists_key left (get_or ks i d))) (lists-at ks i d within)
    ∙ both (lists_key left (get_or ks i d)) (key_eq k (get_or ks i d)) goes
  where
    both : (p q : Bool) → (p || q) ≡ false → (not q && not p) ≡ true
    both true q e = cc
    both false true e = cc
    both false false e = refl

-- ---- the notes, so far

pub walk_start : (s : Shift) (E : Elements) (k : Key) (ks left : List Key) (n : Notes) → IsShifted s (apart k (take 0 ks) left) E n n
walk_start s E k ks left n = shifted_none s (apart k (take 0 ks) left) E n (apart_start k ks left)

pub walk_next :
    (s : Shift) (E : Elements) (k : Key) (ks left : List Key) (i : ℕ) (d : Key) (old now new : Notes) (stay : Bool)
    → i < length ks
    → IsRising ks
    → stay ≡ stays k left (get_or ks i d)
    → IsShifted s (apart k (take i ks) left) E old now
    → IsShifted s (unless stay (get_or ks i d)) E now new
    → IsShifted s (apart k (take (i + 1) ks) left) E old new
walk_next s E k ks left i d old now new stay within up is so_far step =
    shifted_ext s (λ b. apart k (take i ks) left b || unless stay (get_or ks i d) b) (apart k (take (i + 1) ks) left) E old new
    (λ b. ap (λ (p : Bool). apart k (take i ks) left b || unless p (get_or ks i d) b) is ∙ apart_next k ks left i d b within)
    (shifted_then s (apart k (take i ks) left) (unless stay (get_or ks i d)) E old now new
    (λ b there. ap (apart k (take i ks) left) (key_eq-same b (get_or ks i d) (and_parts (key_eq b (get_or ks i d)) (not stay) there).0) ∙ apart-fresh k ks left i d within up)
    so_far step)

pub walk_end : (s : Shift) (E : Elements) (k : Key) (ks left : List Key) (n : ℕ) (old new : Notes) → length ks ≤ n → IsShifted s (apart k (take n ks) left) E old new → IsShifted s (apart k ks left) E old new
walk_end s E k ks left n old new all shifted = subst (λ (xs : List Key). IsShifted s (apart k xs left) E old new) (take_all n ks all) shifted

-- what comes next has as many users as at the start
walk-fresh : (s : Shift) (E : Elements) (k : Key) (ks left : List Key) (i : ℕ) (d : Key) (old now : Notes) → i < length ks → IsRising ks → IsShifted s (apart k (take i ks) left) E old now → user_counts E now (get_or ks i d) ≡ user_counts E old (get_or ks i d)
walk-fresh s E k ks left i d old now within up so_far = shifted_not s (apart k (take i ks) left) E old now (get_or ks i d) so_far (apart-fresh k ks left i d within up)

-- so there is one to take
pub walk_some :
    (s : Shift) (E : Elements) (k : Key) (ks left : List Key) (i : ℕ) (d : Key) (old now : Notes) (stay : Bool)
    → i < length ks
    → IsRising ks
    → stay ≡ stays k left (get_or ks i d)
    → ((b : Key) → apart k ks left b ≡ true → HasOne s (user_counts E old b))
    → IsShifted s (apart k (take i ks) left) E old now
    → stay ≡ false
    → HasOne s (user_counts E now (get_or ks i d))
walk_some s E k ks left i d old now stay within up is some so_far goes =
    subst (HasOne s) (sym (walk-fresh s E k ks left i d old now within up so_far)) (some (get_or ks i d) (apart-here k ks left i d within (sym is ∙ goes)))

-- and it is as ready
pub walk_ready :
    (s : Shift) (E : Elements) (k : Key) (ks left : List Key) (i : ℕ) (d : Key) (old now : Notes) (stay : Bool)
    → i < length ks
    → IsRising ks
    → stay ≡ stays k left (get_or ks i d)
    → AreReady s (apart k ks left) E old
    → IsShifted s (apart k (take i ks) left) E old now
    → stay ≡ false
    → IsReady s E now (get_or ks i d)
walk_ready s E k ks left i d old now stay within up is ready so_far goes =
    ready_kept s E old now (get_or ks i d) (walk-fresh s E k ks left i d old now within up so_far) so_far.stay
    (ready (get_or ks i d) (apart-here k ks left i d within (sym is ∙ goes)))

-- ---- an element that lists what it listed

alike-first : (same less : Bool) (x y : Key) (rest : Option Key) → (if same then rest else if less then Some x else Some y) ≡ None → (same ≡ true) × (rest ≡ None)
alike-first true less x y rest none = (refl, none)
alike-first false true x y rest none = absurd (none-some x (sym none))
alike-first false false x y rest none = absurd (none-some y (sym none))

alike : (xs ys : List Key) → first_apart xs ys ≡ None → xs ≡ ys
alike [] [] none = refl
alike [] (y ∷ ys) none = absurd (none-some y (sym none))
alike (x ∷ xs) [] none = absurd (none-some x (sym none))
alike (x ∷ xs) (y ∷ ys) none =
    let h = alike-first (key_eq x y) (key_lt x y) x y (first_apart xs ys) none in
    ap₂ (λ (k : Key) (ks : List Key). k ∷ ks) (key_eq-same x y h.0) (alike xs ys h.1)

pub shifted_same : (s : Shift) (E : Elements) (k : Key) (ks left : List Key) (n : Notes) → first_apart ks left ≡ None → IsShifted s (apart k ks left) E n n
shifted_same s E k ks left n none =
    subst (λ (l : List Key). IsShifted s (apart k ks l) E n n) (alike ks left none)
    (shifted_none s (apart k ks ks) E n (λ b. nothing (lists_key ks b) (key_eq k b)))
  where
    nothing : (p q : Bool) → ((p && not q) && not p) ≡ false
    nothing true true = refl
    nothing true false = refl
    nothing false q = refl
