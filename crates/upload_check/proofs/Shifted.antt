-- One user more, or one less, of each that passes a test: one after the other, and back again.
use Rattle.std.proofs.Common.{◌≡◌, ℕ, ◌+◌, List, Bool, true, false, ◌||◌, ◌&&◌, refl, sym, ap, ◌∙◌, subst, arith, true≢false, ⊎_elim, Some, Ok, Err}
use Rattle.std.specs.Prelude.{Option, Result, OnOk, IsOk, not, is_some, unwrap_or, if◌then◌else◌}
use Rattle.std.proofs.lemmas.Bool.{cases_Bool}
use Rattle.osm_base.specs.Key.{key_eq, lists_key}
use Rattle.osm_base.specs.declared.keys.Key.{Key}
use Rattle.osm_base.proofs.KeyOrder.{key_eq-same, key_eq-refl}
use Rattle.osm_element.specs.declared.elements.Elements.{Elements}
use Rattle.upload_check.specs.Overlay.{Notes, noted, standing_before, standing_in}
use Rattle.upload_check.specs.Effects.{user_counts, AreAsBefore, StayNoted, IsSet, IsRevised}
use Rattle.upload_check.specs.Shifts.{opposite, Goes, AreShifted, HasOne, Fits, IsReady, AreReady, IsShifted, apart, unless}
use Rattle.upload_check.specs.Users.{one_if}
use Rattle.upload_check.specs.declared.shifts.Shift.{Shift}
use Rattle.upload_check.specs.declared.shifts.Shift.TheVariants.{More, Less}
use Rattle.upload_check.specs.declared.standings.Holds.{Holds}
use Rattle.upload_check.specs.declared.standings.Standing.{Standing}
use Rattle.upload_check.proofs.Changed.{is_set, field-kept, all_same, same_after}
use Rattle.upload_check.proofs.Kept.{Sets, set_stay, all_stay, stay_after}

pub ok_holds : {A B X : Type 0} (r : Result A B) → IsOk r → OnOk r X → X
ok_holds (Ok a) sure holds = holds
ok_holds (Err e) sure holds = absurd (true≢false (sym sure))

-- ---- numbers

goes-none : (s : Shift) (n : ℕ) → Goes s 0 n n
goes-none More n = omega arith
goes-none Less n = omega arith

goes-not : (s : Shift) (a b : ℕ) → Goes s 0 a b → b ≡ a
goes-not More a b goes = omega (arith, goes)
goes-not Less a b goes = omega (arith, goes)

goes-then : (s : Shift) (p q : Bool) (a b c : ℕ) → (q ≡ true → p ≡ false) → Goes s (one_if p) a b → Goes s (one_if q) b c → Goes s (one_if (p || q)) a c
goes-then More true true a b c apart first next = absurd (true≢false (apart refl))
goes-then Less true true a b c apart first next = absurd (true≢false (apart refl))
goes-then More true false a b c apart first next = omega (arith, first, next)
goes-then More false true a b c apart first next = omega (arith, first, next)
goes-then More false false a b c apart first next = omega (arith, first, next)
goes-then Less true false a b c apart first next = omega (arith, first, next)
goes-then Less false true a b c apart first next = omega (arith, first, next)
goes-then Less false false a b c apart first next = omega (arith, first, next)

goes-back : (s : Shift) (n a b c : ℕ) → Goes s n a b → Goes (opposite s) n b c → c ≡ a
goes-back More n a b c first next = omega (arith, first, next)
goes-back Less n a b c first next = omega (arith, first, next)

goes-set : (s : Shift) (p : Bool) (was next now : ℕ) → (p ≡ true → Goes s 1 was next) → now ≡ (if p then next else was) → Goes s (one_if p) was now
goes-set s true was next now goes set = subst (Goes s 1 was) (sym set) (goes refl)
goes-set s false was next now goes set = subst (Goes s 0 was) (sym set) (goes-none s was)

fits-some : (s : Shift) (n : ℕ) → Fits s n → HasOne s n
fits-some More n fits = tt
fits-some Less n fits = fits

-- ---- ready

pub ready_some : (s : Shift) (p : Key → Bool) (E : Elements) (n : Notes) → AreReady s p E n → (b : Key) → p b ≡ true → HasOne s (user_counts E n b)
ready_some s p E n ready b there = fits-some s (user_counts E n b) (ready b there).fits

pub ready_kept : (s : Shift) (E : Elements) (old new : Notes) (k : Key) → user_counts E new k ≡ user_counts E old k → StayNoted old new → IsReady s E old k → IsReady s E new k
ready_kept s E old new k same stay ready = record {
  noted = stay k ready.noted;
  fits = subst (Fits s) (sym same) ready.fits;
}

-- those that stand as before stay ready
pub ready_before : (s : Shift) (p : Key → Bool) (E : Elements) (old new : Notes) → AreAsBefore E old new → StayNoted old new → AreReady s p E old → AreReady s p E new
ready_before s p E old new same stay ready b there = ready_kept s E old new b (ap (λ (x : Standing). x.users) (same b)) stay (ready b there)

-- ---- one element

set-ready : (s : Shift) (E : Elements) (new : Notes) (k : Key) (at : Standing) → noted new k ≡ Some at → Fits s at.users → IsReady s E new k
set-ready s E new k at there fits = record {
  noted = ap is_some there;
  fits = subst (Fits s) (sym (ap (λ (o : Option Standing). (unwrap_or o (standing_before E k)).users) there)) fits;
}

pub shifted_one :
    (s : Shift) (E : Elements) (old new : Notes) (k : Key) (at : Standing) (next : ℕ)
    → at ≡ standing_in E old k
    → Goes s 1 at.users next
    → Fits (opposite s) next
    → Sets old new k (record at { users = next })
    → IsShifted s (λ b. key_eq b k) E old new
shifted_one s E old new k at next before goes fits sets = record {
  counts = λ b. goes-set s (key_eq b k) (user_counts E old b) next (user_counts E new b) (goes_at b) (count_at b);
  same = record {
    versions = field-kept E k at-next old new (λ (x : Standing). x.versions) set (ap (λ (x : Standing). x.versions) before);
    holds = field-kept E k at-next old new (λ (x : Standing). x.holds) set (ap (λ (x : Standing). x.holds) before);
  };
  stay = set_stay old new k at-next sets;
  back = λ b here. subst (IsReady (opposite s) E new) (sym (key_eq-same b k here)) ready;
}
  where
    at-next : Standing
    at-next = record at { users = next }

    set : IsSet E k at-next old new
    set = is_set E k at-next old new sets

    goes_at : (b : Key) → key_eq b k ≡ true → Goes s 1 (user_counts E old b) next
    goes_at b here = subst (λ (n : ℕ). Goes s 1 n next) (ap (λ (x : Standing). x.users) before ∙ ap (user_counts E old) (sym (key_eq-same b k here))) goes

    count_at : (b : Key) → user_counts E new b ≡ (if key_eq b k then next else user_counts E old b)
    count_at b = ap (λ (x : Standing). x.users) (set.each b) ∙ along (key_eq b k)
      where
        along : (p : Bool) → (if p then at-next else standing_in E old b).users ≡ (if p then next else user_counts E old b)
        along true = refl
        along false = refl

    ready : IsReady (opposite s) E new k
    ready = set-ready (opposite s) E new k at-next (sets k ∙ ap (λ (p : Bool). if p then Some at-next else noted old k) (key_eq-refl k)) fits

-- ---- one after the other

pub shifted_none : (s : Shift) (p : Key → Bool) (E : Elements) (n : Notes) → ((b : Key) → p b ≡ false) → IsShifted s p E n n
shifted_none s p E n none = record {
  counts = λ b. subst (λ (q : Bool). Goes s (one_if q) (user_counts E n b) (user_counts E n b)) (sym (none b)) (goes-none s (user_counts E n b));
  same = all_same E n;
  stay = all_stay n;
  back = λ b there. absurd (true≢false (sym there ∙ none b));
}

pub shifted_ext : (s : Shift) (p q : Key → Bool) (E : Elements) (old new : Notes) → ((b : Key) → p b ≡ q b) → IsShifted s p E old new → IsShifted s q E old new
shifted_ext s p q E old new alike shifted = record {
  counts = λ b. subst (λ (x : Bool). Goes s (one_if x) (user_counts E old b) (user_counts E new b)) (alike b) (shifted.counts b);
  same = shifted.same;
  stay = shifted.stay;
  back = λ b there. shifted.back b (alike b ∙ there);
}

-- an element that stays as it is, or goes
pub shifted_kept : (s : Shift) (E : Elements) (n : Notes) (k : Key) (stays : Bool) → stays ≡ true → IsShifted s (unless stays k) E n n
shifted_kept s E n k stays kept = shifted_none s (unless stays k) E n (λ b. ap (λ (q : Bool). key_eq b k && not q) kept ∙ never (key_eq b k))
  where
    never : (q : Bool) → (q && false) ≡ false
    never true = refl
    never false = refl

pub shifted_goes : (s : Shift) (E : Elements) (old new : Notes) (k : Key) (stays : Bool) → stays ≡ false → IsShifted s (λ b. key_eq b k) E old new → IsShifted s (unless stays k) E old new
shifted_goes s E old new k stays goes shifted = shifted_ext s (λ b. key_eq b k) (unless stays k) E old new (λ b. sym (ap (λ (q : Bool). key_eq b k && not q) goes ∙ always (key_eq b k))) shifted
  where
    always : (q : Bool) → (q && true) ≡ q
    always true = refl
    always false = refl

-- none of those that don't pass
pub shifted_not : (s : Shift) (p : Key → Bool) (E : Elements) (old new : Notes) (b : Key) → IsShifted s p E old new → p b ≡ false → user_counts E new b ≡ user_counts E old b
shifted_not s p E old new b shifted not =
    goes-not s (user_counts E old b) (user_counts E new b) (subst (λ (x : Bool). Goes s (one_if x) (user_counts E old b) (user_counts E new b)) not (shifted.counts b))

pub shifted_then :
    (s : Shift) (p q : Key → Bool) (E : Elements) (a b c : Notes)
    → ((k : Key) → q k ≡ true → p k ≡ false)
    → IsShifted s p E a b
    → IsShifted s q E b c
    → IsShifted s (λ k. p k || q k) E a c
shifted_then s p q E a b c apart first next = record {
  counts = λ k. goes-then s (p k) (q k) (user_counts E a k) (user_counts E b k) (user_counts E c k) (apart k) (first.counts k) (next.counts k);
  same = same_after E a b c first.same next.same;
  stay = stay_after a b c first.stay next.stay;
  back = λ k there.
      ⊎_elim
      (λ here. next.back k here)
      (λ other. ready_kept (opposite s) E b c k (shifted_not s q E b c k next other) next.stay
      (first.back k (or-left (p k) (q k) other there)))
      (cases_Bool (q k));
}
  where
    or-left : (x y : Bool) → y ≡ false → (x || y) ≡ true → x ≡ true
    or-left true y not there = refl
    or-left false y not there = sym not ∙ there

-- ---- and back

standing-same : (x y : Standing) → x.versions ≡ y.versions → x.holds ≡ y.holds → x.users ≡ y.users → x ≡ y
standing-same x y versions holds users =
    ap (λ (n : ℕ). fields n x.holds x.users) versions ∙ ap (λ (h : Holds). fields y.versions h x.users) holds ∙ ap (λ (n : ℕ). fields y.versions y.holds n) users
  where
    fields : ℕ → Holds → ℕ → Standing
    fields n h m = record { versions = n; holds = h; users = m }

pub shifted_back :
    (s : Shift) (p : Key → Bool) (E : Elements) (a b c d : Notes)
    → IsShifted s p E a b
    → AreAsBefore E b c
    → IsShifted (opposite s) p E c d
    → AreAsBefore E a d
shifted_back s p E a b c d first same next k =
    standing-same (standing_in E d k) (standing_in E a k)
    (next.same.versions k ∙ ap (λ (x : Standing). x.versions) (same k) ∙ first.same.versions k)
    (next.same.holds k ∙ ap (λ (x : Standing). x.holds) (same k) ∙ first.same.holds k)
    (goes-back s (one_if (p k)) (user_counts E a k) (user_counts E b k) (user_counts E d k) (first.counts k)
    (subst (λ (n : ℕ). Goes (opposite s) (one_if (p k)) n (user_counts E d k)) (ap (λ (x : Standing). x.users) (same k)) (next.counts k)))

-- an element doesn't shift itself
pub shifted_itself :
    (s : Shift) (E : Elements) (k : Key) (ks left : List Key) (at : Standing) (old new : Notes)
    → IsShifted s (apart k ks left) E old new
    → at ≡ standing_in E old k
    → at ≡ standing_in E new k
shifted_itself s E k ks left at old new shifted before =
    before
    ∙ sym (standing-same (standing_in E new k) (standing_in E old k) (shifted.same.versions k) (shifted.same.holds k)
    (shifted_not s (apart k ks left) E old new k shifted itself))
  where
    never : (p q : Bool) → ((p && not true) && not q) ≡ false
    never true q = refl
    never false q = refl

    itself : apart k ks left k ≡ false
    itself = ap (λ (p : Bool). (lists_key ks k && not p) && not (lists_key left k)) (key_eq-refl k) ∙ never (lists_key ks k) (lists_key left k)

-- ---- and a version more of an element, which changes no number of users

pub shifted_revised :
    (s : Shift) (p : Key → Bool) (E : Elements) (k : Key) (holds : Holds) (a b c : Notes)
    → IsShifted s p E a b
    → IsRevised E k holds b c
    → AreShifted s p (user_counts E a) (user_counts E c)
shifted_revised s p E k holds a b c shifted revised x = subst (λ (n : ℕ). Goes s (one_if (p x)) (user_counts E a x) n) (sym (revised.users x)) (shifted.counts x)

pub revised_versions :
    (s : Shift) (p : Key → Bool) (E : Elements) (k : Key) (holds : Holds) (a b c : Notes)
    → IsShifted s p E a b
    → IsRevised E k holds b c
    → (x : Key)
    → (standing_in E c x).versions ≡ (if key_eq x k then (standing_in E a x).versions + 1 else (standing_in E a x).versions)
revised_versions s p E k holds a b c shifted revised x = revised.versions x ∙ ap (λ (n : ℕ). if key_eq x k then n + 1 else n) (shifted.same.versions x)

pub revised_held :
    (s : Shift) (p : Key → Bool) (E : Elements) (k : Key) (holds : Holds) (a b c : Notes)
    → IsShifted s p E a b
    → IsRevised E k holds b c
    → (x : Key)
    → (standing_in E c x).holds ≡ (if key_eq x k then holds else (standing_in E a x).holds)
revised_held s p E k holds a b c shifted revised x = revised.held x ∙ ap (λ (h : Holds). if key_eq x k then holds else h) (shifted.same.holds x)
