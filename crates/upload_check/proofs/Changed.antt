-- One element's standing changed.
use Rattle.std.proofs.Common.{◌≡◌, ℕ, ◌+◌, ◌-◌, ◌<◌, List, Bool, true, false, ◌&&◌, refl, sym, ap, ◌∙◌, ⊎_elim, Some, arith}
use Rattle.std.specs.Prelude.{Option, not, unwrap_or, if◌then◌else◌}
use Rattle.std.proofs.lemmas.Bool.{cases_Bool}
use Rattle.osm_base.specs.Key.{key_eq, lists_key}
use Rattle.osm_base.specs.declared.keys.Key.{Key}
use Rattle.osm_base.proofs.KeyOrder.{key_eq-same}
use Rattle.osm_element.specs.declared.elements.Elements.{Elements}
use Rattle.upload_check.specs.Overlay.{Notes, noted, standing_before, standing_in}
use Rattle.upload_check.specs.Effects.{user_counts, SameElements, IsSet, IsRevised, IsMade}
use Rattle.upload_check.specs.Shifts.{AreShifted, apart}
use Rattle.upload_check.specs.Users.{others, one_if}
use Rattle.upload_check.specs.declared.shifts.Shift.TheVariants.{More, Less}
use Rattle.upload_check.specs.declared.standings.Holds.{Holds}
use Rattle.upload_check.specs.declared.standings.Standing.{Standing}

pub is_set :
    (E : Elements) (k : Key) (at : Standing) (old new : Notes)
    → ((b : Key) → noted new b ≡ (if key_eq b k then Some at else noted old b))
    → IsSet E k at old new
is_set E k at old new each = record {
  each = λ b.
      ap (λ (o : Option Standing). unwrap_or o (standing_before E b)) (each b)
      ∙ along (key_eq b k) b;
}
  where
    along : (p : Bool) (b : Key) → unwrap_or (if p then Some at else noted old b) (standing_before E b) ≡ (if p then at else standing_in E old b)
    along true b = refl
    along false b = refl

-- one of its fields
pub field-set :
    {X : Type 0} (E : Elements) (k : Key) (at : Standing) (old new : Notes) (f : Standing → X) (change : X → X)
    → IsSet E k at old new
    → f at ≡ change (f (standing_in E old k))
    → (b : Key)
    → f (standing_in E new b) ≡ (if key_eq b k then change (f (standing_in E old b)) else f (standing_in E old b))
field-set {X} E k at old new f change set here b =
    ap f (set.each b)
    ∙ ⊎_elim
    (λ t. ap (λ (p : Bool). f (if p then at else standing_in E old b)) t
    ∙ here
    ∙ ap (λ (x : Key). change (f (standing_in E old x))) (sym (key_eq-same b k t))
    ∙ ap (λ (p : Bool). if p then change (f (standing_in E old b)) else f (standing_in E old b)) (sym t))
    (λ n. ap (λ (p : Bool). f (if p then at else standing_in E old b)) n
    ∙ ap (λ (p : Bool). if p then change (f (standing_in E old b)) else f (standing_in E old b)) (sym n))
    (cases_Bool (key_eq b k))

-- a field that stays
pub field-kept :
    {X : Type 0} (E : Elements) (k : Key) (at : Standing) (old new : Notes) (f : Standing → X)
    → IsSet E k at old new
    → f at ≡ f (standing_in E old k)
    → (b : Key)
    → f (standing_in E new b) ≡ f (standing_in E old b)
field-kept {X} E k at old new f set here b =
    field-set E k at old new f (λ x. x) set here b ∙ along (key_eq b k)
  where
    along : (p : Bool) → (if p then f (standing_in E old b) else f (standing_in E old b)) ≡ f (standing_in E old b)
    along true = refl
    along false = refl

-- a version more of one element
pub revised_is :
    (E : Elements) (k : Key) (holds : Holds) (old new : Notes) (at : Standing) (versions : ℕ)
    → at ≡ standing_in E old k
    → versions ≡ at.versions + 1
    → ((b : Key) → noted new b ≡ (if key_eq b k then Some (record { versions = versions; holds = holds; users = at.users }) else noted old b))
    → IsRevised E k holds old new
revised_is E k holds old new at versions before more each = record {
  versions = field-set E k at-next old new (λ (x : Standing). x.versions) (λ (n : ℕ). n + 1) set (more ∙ ap (λ (x : Standing). x.versions + 1) before);
  held = field-set E k at-next old new (λ (x : Standing). x.holds) (λ (h : Holds). holds) set refl;
  users = field-kept E k at-next old new (λ (x : Standing). x.users) set (ap (λ (x : Standing). x.users) before);
}
  where
    at-next : Standing
    at-next = record { versions = versions; holds = holds; users = at.users }

    set : IsSet E k at-next old new
    set = is_set E k at-next old new each

pub all_same : (E : Elements) (n : Notes) → SameElements E n n
all_same E n = record { versions = λ b. refl; holds = λ b. refl }

pub same_after : (E : Elements) (a b c : Notes) → SameElements E a b → SameElements E b c → SameElements E a c
same_after E a b c first next = record {
  versions = λ k. next.versions k ∙ first.versions k;
  holds = λ k. next.holds k ∙ first.holds k;
}

-- fewer users of some elements, then more of others and a version more. Those of both stay as they are
pub made_is :
    (E : Elements) (k : Key) (holds : Holds) (ended begun : List Key) (a b c : Notes)
    → ((x : Key) → others k ended x ≡ true → 0 < user_counts E a x)
    → AreShifted Less (apart k ended begun) (user_counts E a) (user_counts E b)
    → SameElements E a b
    → AreShifted More (apart k begun ended) (user_counts E b) (user_counts E c)
    → ((x : Key) → (standing_in E c x).versions ≡ (if key_eq x k then (standing_in E b x).versions + 1 else (standing_in E b x).versions))
    → ((x : Key) → (standing_in E c x).holds ≡ (if key_eq x k then holds else (standing_in E b x).holds))
    → IsMade E k holds ended begun a c
made_is E k holds ended begun a b c used lowered same raised versions held = record {
  counts = λ x. user_counts E a x - one_if (others k ended x);
  lowered = λ x. less (others k ended x) (user_counts E a x) (used x);
  raised = λ x.
      all (lists_key ended x) (lists_key begun x) (not (key_eq k x)) (user_counts E a x) (user_counts E b x) (user_counts E c x) (used x) (lowered x) (raised x);
  versions = λ x. versions x ∙ ap (λ (n : ℕ). if key_eq x k then n + 1 else n) (same.versions x);
  held = λ x. held x ∙ ap (λ (h : Holds). if key_eq x k then holds else h) (same.holds x);
}
  where
    less : (p : Bool) (n : ℕ) → (p ≡ true → 0 < n) → n - one_if p + one_if p ≡ n
    less true n some = omega (arith, some refl)
    less false n some = omega arith

    all :
        (e g o : Bool) (n m l : ℕ)
        → ((e && o) ≡ true → 0 < n)
        → n ≡ m + one_if ((e && o) && not g)
        → l ≡ m + one_if ((g && o) && not e)
        → l ≡ n - one_if (e && o) + one_if (g && o)
    all true true true n m l some first next = omega (arith, some refl, first, next)
    all true false true n m l some first next = omega (arith, some refl, first, next)
    all false true true n m l some first next = omega (arith, first, next)
    all false false true n m l some first next = omega (arith, first, next)
    all true true false n m l some first next = omega (arith, first, next)
    all true false false n m l some first next = omega (arith, first, next)
    all false true false n m l some first next = omega (arith, first, next)
    all false false false n m l some first next = omega (arith, first, next)
