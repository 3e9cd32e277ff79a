-- The least of the users, found among those of before and those that were changed.
use Rattle.std.proofs.Common.{◌≡◌, ℕ, zero, suc, ◌+◌, ◌<◌, ◌≤◌, Bool, true, false, cond, ◌&&◌, ◌||◌, ⊎_elim, List, [], ◌∷◌, ◌++◌, length, take, get_or, Option, Some, None, refl, sym, ap, ◌∙◌, subst, arith}
use Rattle.std.specs.Prelude.{fold, not, filter, slice_get, if◌then◌else◌}
use Rattle.std.proofs.lemmas.Bool.{cases_Bool, false≢true, and_parts, or_cases}
use Rattle.std.proofs.lemmas.Bool.Decides.{nat_tests}
use Rattle.std.proofs.lemmas.List.{take_all, take_more}
use Rattle.std.proofs.lemmas.List.Elements.{filter-append}
use Rattle.osm_base.specs.Key.{key_eq, key_lt, lists_key, IsAfter, IsRising}
use Rattle.osm_base.specs.declared.keys.Key.{Key}
use Rattle.osm_base.proofs.KeyOrder.{key_eq-same, key_eq-refl, key_lt-irrefl, key_lt-total}
use Rattle.osm_base.proofs.KeyLists.{rising-filter, lists-filter}
use Rattle.osm_element.specs.declared.elements.Elements.{Elements}
use Rattle.osm_element.specs.declared.contents.Content.{Content}
use Rattle.osm_element.specs.Elements.{content_of, refs_in, uses, keys, users, first_user}
use Rattle.osm_element.proofs.Used.{lists-users, rising-keys}
use Rattle.upload_check.specs.Checks.{lesser_where}
use Rattle.upload_check.specs.Users.{least, IsLeast, IsLeastOf}

or-false : (b : Bool) → (b || false) ≡ b
or-false true = refl
or-false false = refl

or-true : (b : Bool) → (b || true) ≡ true
or-true true = refl
or-true false = refl

-- ---- the least that passes a test

-- the same of tests that say the same
pub least-same : (p q : Key → Bool) (x : Option Key) → ((a : Key) → q a ≡ p a) → IsLeast p x → IsLeast q x
least-same p q None same is = λ a. same a ∙ is a
least-same p q (Some c) same is = (same c ∙ is.0, λ a passes. is.1 a (sym (same a) ∙ passes))

-- there is one least
pub least-one : (p : Key → Bool) (x y : Option Key) → IsLeast p x → IsLeast p y → x ≡ y
least-one p None None is_x is_y = refl
least-one p None (Some c) is_x is_y = absurd (false≢true (sym (is_x c) ∙ is_y.0))
least-one p (Some a) None is_x is_y = absurd (false≢true (sym (is_y a) ∙ is_x.0))
least-one p (Some a) (Some c) is_x is_y =
    ap (λ (k : Key). Some k)
    (⊎_elim
    (λ t. key_eq-same a c t)
    (λ f. absurd (false≢true (sym (is_x.1 c is_y.0) ∙ key_lt-total a c (is_y.1 a is_x.0) f)))
    (cases_Bool (key_eq a c)))

-- of what passes one test or another
pub least-either : (p q : Key → Bool) (x y : Option Key) → IsLeast p x → IsLeast q y → IsLeast (λ a. p a || q a) (least x y)
least-either p q None None is_x is_y = λ a. ap (λ (b : Bool). b || q a) (is_x a) ∙ is_y a
least-either p q None (Some c) is_x is_y =
    (ap (λ (b : Bool). b || q c) (is_x c) ∙ is_y.0, λ a passes. is_y.1 a (sym (ap (λ (b : Bool). b || q a) (is_x a)) ∙ passes))
least-either p q (Some a) None is_x is_y =
    (ap (λ (b : Bool). b || q a) is_x.0, λ k passes. is_x.1 k (sym (ap (λ (b : Bool). p k || b) (is_y k) ∙ or-false (p k)) ∙ passes))
least-either p q (Some a) (Some c) is_x is_y =
    let P : Bool → Type 0 = λ b. IsLeast (λ k. p k || q k) (if b then Some c else Some a) in
    ⊎_elim
    (λ t. subst P (sym t) (ap (λ (b : Bool). p c || b) is_y.0 ∙ or-true (p c), λ k passes. ⊎_elim (λ one. behind k a c t (is_x.1 k one)) (λ two. is_y.1 k two) (or_cases (p k) (q k) passes)))
    (λ f. subst P (sym f) (ap (λ (b : Bool). b || q a) is_x.0, λ k passes. ⊎_elim (λ one. is_x.1 k one) (λ two. level k a c f (is_y.1 k two)) (or_cases (p k) (q k) passes)))
    (cases_Bool (key_lt c a))
  where
    behind : (k a c : Key) → key_lt c a ≡ true → key_lt k a ≡ false → key_lt k c ≡ false
    behind k a c less late = grind (arith, nat_tests)

    level : (k a c : Key) → key_lt c a ≡ false → key_lt k c ≡ false → key_lt k a ≡ false
    level k a c late later = grind (arith, nat_tests)

-- ---- of a list in order it is the first

after-late : (c : Key) (ks : List Key) (a : Key) → IsAfter c ks → lists_key ks a ≡ true → key_lt a c ≡ false
after-late c [] a up there = cc
after-late c (k ∷ ks) a up there =
    ⊎_elim
    (λ here. ap (λ (x : Key). key_lt x c) (sym (key_eq-same k a here)) ∙ one_way c k up.0)
    (λ further. after-late c ks a up.1 further)
    (or_cases (key_eq k a) (lists_key ks a) there)
  where
    one_way : (x y : Key) → key_lt x y ≡ true → key_lt y x ≡ false
    one_way x y h = grind (arith, nat_tests)

pub least-first : (ks : List Key) → IsRising ks → IsLeast (λ a. lists_key ks a) (slice_get ks 0)
least-first [] up = λ a. refl
least-first (k ∷ ks) up = (
  ap (λ (b : Bool). b || lists_key ks k) (key_eq-refl k),
  λ a there. ⊎_elim
      (λ here. ap (λ (x : Key). key_lt x k) (sym (key_eq-same k a here)) ∙ key_lt-irrefl k)
      (λ further. after-late k ks a up.0 further)
      (or_cases (key_eq k a) (lists_key ks a) there),
)

pub least-passing : (ks : List Key) (p : Key → Bool) → IsRising ks → IsLeast (λ a. lists_key ks a && p a) (slice_get (filter p ks) 0)
least-passing ks p up =
    least-same (λ a. lists_key (filter p ks) a) (λ a. lists_key ks a && p a) (slice_get (filter p ks) 0)
    (λ a. sym (lists-filter ks p a))
    (least-first (filter p ks) (rising-filter ks p up))

pub least-user : (E : Elements) (b : Key) → IsLeast (λ a. uses E a b) (first_user E b)
least-user E b =
    least-same (λ a. lists_key (users E b) a) (λ a. uses E a b) (first_user E b)
    (λ a. sym (lists-users E a b))
    (least-first (users E b) (rising-filter (keys E) (λ a. uses E a b) (rising-keys E)))

-- ---- the least user is among those of before or among the changed

-- those of before that use it still, and the changed that use it
pub first-among :
    (E F : Elements) (b : Key) (changed : List Key) (x y : Option Key)
    → ((a : Key) → lists_key changed a ≡ false → uses F a b ≡ uses E a b)
    → IsLeast (λ a. lists_key (users E b) a && uses F a b) x
    → IsLeast (λ a. lists_key changed a && uses F a b) y
    → first_user F b ≡ least x y
first-among E F b changed x y others is_x is_y =
    least-one (λ a. uses F a b) (first_user F b) (least x y)
    (least-user F b)
    (least-same (λ a. (lists_key (users E b) a && uses F a b) || (lists_key changed a && uses F a b)) (λ a. uses F a b) (least x y)
    each
    (least-either (λ a. lists_key (users E b) a && uses F a b) (λ a. lists_key changed a && uses F a b) x y is_x is_y))
  where
    kept : (e f l : Bool) → (l ≡ false → f ≡ e) → f ≡ ((e && f) || (l && f))
    kept e true true same = sym (or-true (e && true))
    kept e false true same = sym (nothing e)
      where
        nothing : (e : Bool) → ((e && false) || (true && false)) ≡ false
        nothing true = refl
        nothing false = refl
    kept true f false same = let is : f ≡ true = same refl in is ∙ sym (ap (λ (g : Bool). (true && g) || (false && g)) is)
    kept false f false same = let is : f ≡ false = same refl in is ∙ sym (ap (λ (g : Bool). (false && g) || (false && g)) is)

    each : (a : Key) → uses F a b ≡ ((lists_key (users E b) a && uses F a b) || (lists_key changed a && uses F a b))
    each a =
        kept (uses E a b) (uses F a b) (lists_key changed a) (others a)
        ∙ ap (λ (p : Bool). (p && uses F a b) || (lists_key changed a && uses F a b)) (sym (lists-users E a b))

-- an element that holds what it held uses what it used
pub uses-same : (E F : Elements) (a b : Key) → content_of F a ≡ content_of E a → uses F a b ≡ uses E a b
uses-same E F a b same = ap (λ (c : Option (Content ℕ)). lists_key (refs_in c) b && not (key_eq a b)) same

-- the same, found by a test that tells the users
pub first-by :
    (E F : Elements) (b : Key) (changed : List Key) (p : Key → Bool) (x y : Option Key)
    → ((a : Key) → p a ≡ uses F a b)
    → ((a : Key) → lists_key changed a ≡ false → content_of F a ≡ content_of E a)
    → x ≡ slice_get (filter p (users E b)) 0
    → IsLeastOf changed p y
    → first_user F b ≡ least x y
first-by E F b changed p x y tells held first is_y =
    first-among E F b changed x y (λ a unchanged. uses-same E F a b (held a unchanged))
    (told (users E b) x
    (subst (IsLeastOf (users E b) p) (sym first) (least-passing (users E b) p (rising-filter (keys E) (λ a. uses E a b) (rising-keys E)))))
    (told changed y is_y)
  where
    told : (ks : List Key) (z : Option Key) → IsLeastOf ks p z → IsLeastOf ks (λ a. uses F a b) z
    told ks z is = least-same (λ a. lists_key ks a && p a) (λ a. lists_key ks a && uses F a b) z (λ a. ap (λ (q : Bool). lists_key ks a && q) (sym (tells a))) is

-- ---- the least that passes, by a fold

one-more : (p q : Key → Bool) (found : Option Key) (k : Key) → IsLeast q found → IsLeast (λ a. q a || (key_eq k a && p a)) (lesser_where p found k)
one-more p q found k is =
    let P : Bool → Type 0 = λ b. IsLeast (λ a. q a || (key_eq k a && p a)) (if b then least found (Some k) else found) in
    ⊎_elim
    (λ t. subst P (sym t) (least-either q (λ a. key_eq k a && p a) found (Some k) is (alone t)))
    (λ f. subst P (sym f) (least-same q (λ a. q a || (key_eq k a && p a)) found (λ a. ap (λ (b : Bool). q a || b) (never f a) ∙ or-false (q a)) is))
    (cases_Bool (p k))
  where
    never : p k ≡ false → (a : Key) → (key_eq k a && p a) ≡ false
    never f a =
        ⊎_elim
        (λ t. ap (λ (b : Bool). b && p a) t ∙ ap p (sym (key_eq-same k a t)) ∙ f)
        (λ other. ap (λ (b : Bool). b && p a) other)
        (cases_Bool (key_eq k a))

    alone : p k ≡ true → IsLeast (λ a. key_eq k a && p a) (Some k)
    alone t = (
      ap (λ (b : Bool). b && p k) (key_eq-refl k) ∙ t,
      λ a it. let same : k ≡ a = key_eq-same k a (and_parts (key_eq k a) (p a) it).0 in
          ap (λ (x : Key). key_lt x k) (sym same) ∙ key_lt-irrefl k,
    )

least-fold-from : (p q : Key → Bool) (found : Option Key) (ks : List Key) → IsLeast q found → IsLeast (λ a. q a || (lists_key ks a && p a)) (fold (lesser_where p) found ks)
least-fold-from p q found [] is = least-same q (λ a. q a || (false && p a)) found (λ a. or-false (q a)) is
least-fold-from p q found (k ∷ ks) is =
    least-same (λ a. (q a || (key_eq k a && p a)) || (lists_key ks a && p a)) (λ a. q a || ((key_eq k a || lists_key ks a) && p a)) (fold (lesser_where p) (lesser_where p found k) ks)
    (λ a. apart (q a) (key_eq k a) (lists_key ks a) (p a))
    (least-fold-from p (λ a. q a || (key_eq k a && p a)) (lesser_where p found k) ks (one-more p q found k is))
  where
    apart : (o e l r : Bool) → (o || ((e || l) && r)) ≡ ((o || (e && r)) || (l && r))
    apart true e l r = refl
    apart false true true true = refl
    apart false true true false = refl
    apart false true false true = refl
    apart false true false false = refl
    apart false false l r = refl

pub least-fold : (p : Key → Bool) (ks : List Key) → IsLeastOf ks p (fold (lesser_where p) None ks)
least-fold p ks = least-fold-from p (λ a. false) None ks (λ a. refl)

-- by the test, the first of the users of before, or the least of the changed
pub first-folded :
    (E F : Elements) (b : Key) (changed : List Key) (p : Key → Bool)
    → ((a : Key) → p a ≡ uses F a b)
    → ((a : Key) → lists_key changed a ≡ false → content_of F a ≡ content_of E a)
    → first_user F b ≡ least (slice_get (filter p (users E b)) 0) (fold (lesser_where p) None changed)
first-folded E F b changed p tells held =
    first-by E F b changed p (slice_get (filter p (users E b)) 0) (fold (lesser_where p) None changed) tells held refl (least-fold p changed)

-- ---- by place, to the first that passes

filter-next : (ks : List Key) (p : Key → Bool) (i : ℕ) (d : Key) → i < length ks → filter p (take (i + 1) ks) ≡ filter p (take i ks) ++ filter p (get_or ks i d ∷ [])
filter-next ks p i d within = ap (filter p) (take_more ks i d within) ∙ filter-append p (take i ks) (get_or ks i d ∷ [])

pub no_passing_more :
    (ks : List Key) (p : Key → Bool) (i : ℕ) (d : Key)
    → i < length ks
    → filter p (take i ks) ≡ []
    → p (get_or ks i d) ≡ false
    → filter p (take (i + 1) ks) ≡ []
no_passing_more ks p i d within none fails =
    filter-next ks p i d within
    ∙ ap (λ (l : List Key). l ++ filter p (get_or ks i d ∷ [])) none
    ∙ ap (λ (b : Bool). cond b (get_or ks i d ∷ []) []) fails

pub no_passing_end : (ks : List Key) (p : Key → Bool) (n : ℕ) → length ks ≤ n → filter p (take n ks) ≡ [] → slice_get (filter p ks) 0 ≡ None
no_passing_end ks p n all none = ap (λ (l : List Key). slice_get (filter p l) 0) (sym (take_all n ks all)) ∙ ap (λ (l : List Key). slice_get l 0) none

pub passing_found :
    (ks : List Key) (p : Key → Bool) (i : ℕ) (d : Key)
    → i < length ks
    → filter p (take i ks) ≡ []
    → p (get_or ks i d) ≡ true
    → slice_get (filter p ks) 0 ≡ Some (get_or ks i d)
passing_found [] p i d within none passes = absurd (omega (arith, within))
passing_found (k ∷ ks) p zero d within none passes = ap (λ (b : Bool). slice_get (cond b (k ∷ filter p ks) (filter p ks)) 0) passes
passing_found (k ∷ ks) p (suc i) d within none passes =
    ⊎_elim
    (λ t. absurd (not_nil k (filter p (take i ks)) (sym (ap (λ (b : Bool). cond b (k ∷ filter p (take i ks)) (filter p (take i ks))) t) ∙ none)))
    (λ f. ap (λ (b : Bool). slice_get (cond b (k ∷ filter p ks) (filter p ks)) 0) f
    ∙ passing_found ks p i d (omega (arith, within)) (sym (ap (λ (b : Bool). cond b (k ∷ filter p (take i ks)) (filter p (take i ks))) f) ∙ none) passes)
    (cases_Bool (p k))
  where
    not_nil : (x : Key) (xs : List Key) → x ∷ xs ≡ [] → ⊥
    not_nil x xs e = cc
