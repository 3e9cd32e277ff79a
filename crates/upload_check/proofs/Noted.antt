-- What is noted of one kind's elements, after one of them is set.
use Rattle.std.proofs.Common.{◌≡◌, ℕ, ◌-◌, ◌<◌, ◌≤◌, Bool, true, false, refl, sym, ap, ◌∙◌, List, length, Some, None, subst, arith}
use Rattle.std.specs.Prelude.{Option, is_some, slice_get, nat_lt, ◌==◌, if◌then◌else◌}
use Rattle.std.specs.Map.{lookup}
use Rattle.std.specs.Option.{option_or}
use Rattle.std.specs.Ordering.{nat_cmp}
use Rattle.std.specs.BTreeMap.{is_at}
use Rattle.std.proofs.lemmas.Bool.Decides.{nat_tests}
use Rattle.std.proofs.lemmas.Option.{slice_get_past}
use Rattle.upload_check.specs.Overlay.{KindNotes, created_at, older_at, noted_at}
use Rattle.upload_check.specs.declared.standings.Standing.{Standing}

-- of each id
abbrev pub Sets : KindNotes → KindNotes → ℕ → Standing → Type 0
Sets old new id at = (i : ℕ) → noted_at new i ≡ (if i == id then Some at else noted_at old i)

abbrev pub SetsOlder : KindNotes → KindNotes → ℕ → Standing → Type 0
SetsOlder old new id at = (i : ℕ) → older_at new i ≡ (if i == id then Some at else older_at old i)

or-set : (c o : Option Standing) (at : Standing) (p : Bool) → (p ≡ true → c ≡ None) → option_or c (if p then Some at else o) ≡ (if p then Some at else option_or c o)
or-set c o at true none = ap (λ (x : Option Standing). option_or x (Some at)) (none refl)
or-set c o at false none = refl

-- an older element
set-older :
    (old new : KindNotes) (id : ℕ) (at : Standing)
    → new.first ≡ old.first
    → new.created ≡ old.created
    → created_at old id ≡ None
    → SetsOlder old new id at
    → Sets old new id at
set-older old new id at first created none older i =
    ap (λ (x : Option Standing). option_or x (older_at new i)) same
    ∙ ap (λ (x : Option Standing). option_or (created_at old i) x) (older i)
    ∙ or-set (created_at old i) (older_at old i) at (i == id) here
  where
    same : created_at new i ≡ created_at old i
    same =
        ap (λ (n : ℕ). if nat_lt i n then None else slice_get new.created (i - n)) first
        ∙ ap (λ (xs : List Standing). if nat_lt i old.first then None else slice_get xs (i - old.first)) created

    equal : (i id : ℕ) → (i == id) ≡ true → i ≡ id
    equal i id e = grind (arith, nat_tests)

    here : (i == id) ≡ true → created_at old i ≡ None
    here e = subst (λ (n : ℕ). created_at old n ≡ None) (sym (equal i id e)) none

created-early : (n : KindNotes) (id : ℕ) → id < n.first → created_at n id ≡ None
created-early n id early = ap (λ (p : Bool). if p then None else slice_get n.created (id - n.first)) (before id n.first early)
  where
    before : (m n : ℕ) → m < n → nat_lt m n ≡ true
    before m n h = grind (arith, nat_tests)

created-past : (n : KindNotes) (id : ℕ) → length n.created ≤ id - n.first → created_at n id ≡ None
created-past n id past = along (nat_lt id n.first)
  where
    along : (p : Bool) → (if p then None else slice_get n.created (id - n.first)) ≡ None
    along true = refl
    along false = slice_get_past n.created (id - n.first) past

pub set_early :
    (old new : KindNotes) (id : ℕ) (at : Standing)
    → new.first ≡ old.first
    → new.created ≡ old.created
    → id < old.first
    → SetsOlder old new id at
    → Sets old new id at
set_early old new id at first created early older = set-older old new id at first created (created-early old id early) older

pub set_past :
    (old new : KindNotes) (id : ℕ) (at : Standing)
    → new.first ≡ old.first
    → new.created ≡ old.created
    → length old.created ≤ id - old.first
    → SetsOlder old new id at
    → Sets old new id at
set_past old new id at first created past older = set-older old new id at first created (created-past old id past) older

pub set_beyond :
    (old new : KindNotes) (id : ℕ) (at : Standing)
    → new.first ≡ old.first
    → new.created ≡ old.created
    → length old.created < id - old.first
    → SetsOlder old new id at
    → Sets old new id at
set_beyond old new id at first created beyond older = set_past old new id at first created (omega (arith, beyond)) older

-- what is noted of such an element is noted among the older ones
pub noted_early : (n : KindNotes) (id : ℕ) → id < n.first → is_some (noted_at n id) ≡ true → is_some (older_at n id) ≡ true
noted_early n id early there = sym (ap (λ (o : Option Standing). is_some (option_or o (older_at n id))) (created-early n id early)) ∙ there

pub noted_past : (n : KindNotes) (id : ℕ) → length n.created ≤ id - n.first → is_some (noted_at n id) ≡ true → is_some (older_at n id) ≡ true
noted_past n id past there = sym (ap (λ (o : Option Standing). is_some (option_or o (older_at n id))) (created-past n id past)) ∙ there

-- a created one
pub set_created :
    (old new : KindNotes) (id : ℕ) (at : Standing)
    → new.first ≡ old.first
    → new.older ≡ old.older
    → old.first ≤ id
    → ((i : ℕ) → slice_get new.created i ≡ (if i == (id - old.first) then Some at else slice_get old.created i))
    → Sets old new id at
set_created old new id at first older reached created i =
    ap (λ (n : ℕ). option_or (if nat_lt i n then None else slice_get new.created (i - n)) (older_at new i)) first
    ∙ ap (λ (es : List (ℕ × Standing)). option_or (if nat_lt i old.first then None else slice_get new.created (i - old.first)) (lookup (is_at (nat_cmp i)) es)) older
    ∙ along (nat_lt i old.first) refl
  where
    apart : (i id first : ℕ) → first ≤ id → nat_lt i first ≡ true → (i == id) ≡ false
    apart i id first reached e = grind (arith, nat_tests)

    shifted : (i id first : ℕ) → first ≤ id → nat_lt i first ≡ false → ((i - first) == (id - first)) ≡ (i == id)
    shifted i id first reached e = grind (arith, nat_tests)

    or-in : (p : Bool) (o : Option Standing) → option_or (if p then Some at else o) (older_at old i) ≡ (if p then Some at else option_or o (older_at old i))
    or-in true o = refl
    or-in false o = refl

    along :
        (p : Bool) → nat_lt i old.first ≡ p
        → option_or (if p then None else slice_get new.created (i - old.first)) (older_at old i) ≡ (if i == id then Some at else option_or (if p then None else slice_get old.created (i - old.first)) (older_at old i))
    along true e = ap (λ (q : Bool). if q then Some at else older_at old i) (sym (apart i id old.first reached e))
    along false e =
        ap (λ (x : Option Standing). option_or x (older_at old i)) (created (i - old.first))
        ∙ ap (λ (q : Bool). option_or (if q then Some at else slice_get old.created (i - old.first)) (older_at old i)) (shifted i id old.first reached e)
        ∙ or-in (i == id) (slice_get old.created (i - old.first))
