-- Where elements of before stand, in a list in order and beside it.
use Rattle.std.proofs.Common.{◌≡◌, ℕ, zero, suc, ◌+◌, ◌<◌, ◌≤◌, Bool, true, false, [], ◌∷◌, ◌++◌, length, Some, None, refl, sym, ap, ◌∙◌, subst, ⊎_elim, arith}
use Rattle.std.specs.Prelude.{Option, is_some, slice_get, slice_index_or, slice_set, ◌==◌, if◌then◌else◌}
use Rattle.std.specs.Option.{option_or}
use Rattle.std.specs.Ordering.{nat_cmp}
use Rattle.std.specs.BTreeMap.{is_at}
use Rattle.std.proofs.lemmas.Bool.{cases_lt}
use Rattle.std.proofs.lemmas.Option.{slice_get-get_or, get_or_from_slice_get}
use Rattle.std.proofs.lemmas.Bool.Decides.{nat_tests}
use Rattle.upload_check.specs.Older.{OlderNotes, standing_of, AreBelow, IsInOrder, IsAtPlace, Puts}
use Rattle.upload_check.specs.declared.standings.Standing.{Standing}
use Rattle.upload_check.specs.declared.standings.Holds.TheVariants.{AsBefore}

at-is : (i k : ℕ) → is_at (nat_cmp i) k ≡ (i == k)
at-is i k = grind (arith, nat_tests)

same-entry : (e f : ℕ × Standing) → ◌≡◌ {A = Option (ℕ × Standing)} (Some e) (Some f) → e ≡ f
same-entry e f same = cc

-- one entry of a look
look-cons : (e : ℕ × Standing) (es : OlderNotes) (i : ℕ) → standing_of (e ∷ es) i ≡ (if i == e.0 then Some e.1 else standing_of es i)
look-cons e es i = ap (λ (b : Bool). if b then Some e.1 else standing_of es i) (at-is i e.0)

look-other : (e : ℕ × Standing) (es : OlderNotes) (i : ℕ) → (i == e.0) ≡ false → standing_of (e ∷ es) i ≡ standing_of es i
look-other e es i other = look-cons e es i ∙ ap (λ (b : Bool). if b then Some e.1 else standing_of es i) other

look-append : (xs ys : OlderNotes) (i : ℕ) → standing_of (xs ++ ys) i ≡ option_or (standing_of xs i) (standing_of ys i)
look-append [] ys i = refl
look-append (x ∷ xs) ys i =
    look-cons x (xs ++ ys) i
    ∙ ap (λ (o : Option Standing). if i == x.0 then Some x.1 else o) (look-append xs ys i)
    ∙ along (i == x.0)
    ∙ sym (ap (λ (o : Option Standing). option_or o (standing_of ys i)) (look-cons x xs i))
  where
    along : (b : Bool) → (if b then Some x.1 else option_or (standing_of xs i) (standing_of ys i)) ≡ option_or (if b then Some x.1 else standing_of xs i) (standing_of ys i)
    along true = refl
    along false = refl

-- ---- halving

-- those before a place have lesser ids, and those from a second one on greater ones
pub record IsBetween (es : OlderNotes) (id low high : ℕ) : Type 0 where
  pub before : (j : ℕ) (e : ℕ × Standing) → j < low → slice_get es j ≡ Some e → e.0 < id
  pub after : (j : ℕ) (e : ℕ × Standing) → high ≤ j → slice_get es j ≡ Some e → id < e.0

pub upper_half :
    (es : OlderNotes) (id low high middle : ℕ) (m : ℕ × Standing)
    → IsInOrder es
    → IsBetween es id low high
    → slice_get es middle ≡ Some m
    → m.0 < id
    → IsBetween es id (middle + 1) high
upper_half es id low high middle m order between here less = record {
  before = λ j e early there.
      ⊎_elim
      (λ below. omega (arith, order.each j middle e m below there here, less))
      (λ last. let at : j ≡ middle = omega (arith, early, last) in
      let same : e ≡ m = same-entry e m (sym there ∙ ap (slice_get es) at ∙ here) in
      subst (λ (f : ℕ × Standing). f.0 < id) (sym same) less)
      (cases_lt j middle);
  after = between.after;
}

pub lower_half :
    (es : OlderNotes) (id low high middle : ℕ) (m : ℕ × Standing)
    → IsInOrder es
    → IsBetween es id low high
    → slice_get es middle ≡ Some m
    → id < m.0
    → IsBetween es id low middle
lower_half es id low high middle m order between here more = record {
  before = between.before;
  after = λ j e late there.
      ⊎_elim
      (λ above. omega (arith, order.each middle j m e above here there, more))
      (λ first. let at : j ≡ middle = omega (arith, late, first) in
      let same : e ≡ m = same-entry e m (sym there ∙ ap (slice_get es) at ∙ here) in
      subst (λ (f : ℕ × Standing). id < f.0) (sym same) more)
      (cases_lt middle j);
}

-- nothing is noted of an id that is at no place
nowhere : (es : OlderNotes) (id : ℕ) → ((j : ℕ) (e : ℕ × Standing) → slice_get es j ≡ Some e → (id == e.0) ≡ false) → standing_of es id ≡ None
nowhere [] id other = refl
nowhere (x ∷ xs) id other = look-other x xs id (other 0 x refl) ∙ nowhere xs id (λ j e there. other (j + 1) e (moved j e there))
  where
    moved : (j : ℕ) (e : ℕ × Standing) → slice_get xs j ≡ Some e → slice_get (x ∷ xs) (j + 1) ≡ Some e
    moved j e there = let next : j + 1 ≡ suc j = omega arith in ap (slice_get (x ∷ xs)) next ∙ there

pub not_there : (es : OlderNotes) (id place : ℕ) → IsBetween es id place place → standing_of es id ≡ None
not_there es id place between = nowhere es id (λ j e there. ⊎_elim (λ early. lesser e (between.before j e early there)) (λ late. greater e (between.after j e late there)) (cases_lt j place))
  where
    lesser : (e : ℕ × Standing) → e.0 < id → (id == e.0) ≡ false
    lesser e less = grind (arith, nat_tests)

    greater : (e : ℕ × Standing) → id < e.0 → (id == e.0) ≡ false
    greater e more = grind (arith, nat_tests)

order-tail : (x : ℕ × Standing) (xs : OlderNotes) → IsInOrder (x ∷ xs) → IsInOrder xs
order-tail x xs order = record { each = λ i j e f less there here. order.each (suc i) (suc j) e f (omega (arith, less)) there here }

head-less : (x : ℕ × Standing) (xs : OlderNotes) (place : ℕ) (e : ℕ × Standing) → IsInOrder (x ∷ xs) → slice_get xs place ≡ Some e → (e.0 == x.0) ≡ false
head-less x xs place e order here = apart (order.each 0 (suc place) x e (omega arith) refl here)
  where
    apart : x.0 < e.0 → (e.0 == x.0) ≡ false
    apart less = grind (arith, nat_tests)

-- what is noted at a place
pub there_at : (es : OlderNotes) (place : ℕ) (e : ℕ × Standing) → IsInOrder es → slice_get es place ≡ Some e → standing_of es e.0 ≡ Some e.1
there_at [] place e order here = cc
there_at (x ∷ xs) zero e order here =
    subst (λ (f : ℕ × Standing). standing_of (x ∷ xs) f.0 ≡ Some f.1) (same-entry x e here)
    (look-cons x xs x.0 ∙ ap (λ (b : Bool). if b then Some x.1 else standing_of xs x.0) (test x.0))
  where
    test : (n : ℕ) → (n == n) ≡ true
    test n = grind (arith, nat_tests)
there_at (x ∷ xs) (suc place) e order here = look-other x xs e.0 (head-less x xs place e order here) ∙ there_at xs place e (order-tail x xs order) here

-- ---- an entry put or added

same-id : (i id : ℕ) → (i == id) ≡ true → i ≡ id
same-id i id e = grind (arith, nat_tests)

pub put_puts : (es : OlderNotes) (place id : ℕ) (was at : Standing) → IsInOrder es → slice_get es place ≡ Some (id, was) → Puts id at es (slice_set es place (id, at))
put_puts [] place id was at order here i = cc
put_puts (x ∷ xs) zero id was at order here i =
    look-cons (id, at) xs i ∙ by (i == id) refl
  where
    first : x.0 ≡ id
    first = ap (λ (e : ℕ × Standing). e.0) (same-entry x (id, was) here)

    by : (b : Bool) → (i == id) ≡ b → (if b then Some at else standing_of xs i) ≡ (if b then Some at else standing_of (x ∷ xs) i)
    by true e = refl
    by false e = sym (look-other x xs i (ap (λ (n : ℕ). i == n) first ∙ e))
put_puts (x ∷ xs) (suc place) id was at order here i =
    look-cons x (slice_set xs place (id, at)) i
    ∙ ap (λ (o : Option Standing). if i == x.0 then Some x.1 else o) (put_puts xs place id was at (order-tail x xs order) here i)
    ∙ by (i == id) refl (i == x.0) refl
    ∙ ap (λ (o : Option Standing). if i == id then Some at else o) (sym (look-cons x xs i))
  where
    apart : (i == id) ≡ true → (i == x.0) ≡ false
    apart same = ap (λ (n : ℕ). n == x.0) (same-id i id same) ∙ head-less x xs place (id, was) order here

    by : (p : Bool) → (i == id) ≡ p → (q : Bool) → (i == x.0) ≡ q
        → (if q then Some x.1 else (if p then Some at else standing_of xs i)) ≡ (if p then Some at else (if q then Some x.1 else standing_of xs i))
    by true e true f = let none = apart e in cc
    by true e false f = refl
    by false e q f = refl

pub push_puts : (es : OlderNotes) (id : ℕ) (at : Standing) → AreBelow es id → Puts id at es (es ++ (id, at) ∷ [])
push_puts es id at below i =
    look-append es ((id, at) ∷ []) i
    ∙ ap (option_or (standing_of es i)) (look-cons (id, at) [] i)
    ∙ by (i == id) refl
  where
    lesser : (e : ℕ × Standing) → e.0 < id → (id == e.0) ≡ false
    lesser e less = grind (arith, nat_tests)

    none : (i == id) ≡ true → standing_of es i ≡ None
    none same = ap (standing_of es) (same-id i id same) ∙ nowhere es id (λ j e there. lesser e (below j e there))

    or-none : (o : Option Standing) → option_or o None ≡ o
    or-none None = refl
    or-none (Some s) = refl

    by : (p : Bool) → (i == id) ≡ p → option_or (standing_of es i) (if p then Some at else None) ≡ (if p then Some at else standing_of es i)
    by true e = ap (λ (o : Option Standing). option_or o (Some at)) (none e)
    by false e = or-none (standing_of es i)

-- what a place of a list without an entry there would hold
abbrev pub no_entry : ℕ × Standing
no_entry = (0, record { versions = 0; holds = AsBefore; users = 0 })

pub at_place : (es : OlderNotes) (place id : ℕ) → place < length es → (slice_index_or es place no_entry).0 ≡ id → IsAtPlace es id place
at_place es place id inside same = record {
  standing = (slice_index_or es place no_entry).1;
  here = slice_get-get_or es place no_entry inside ∙ ap (λ (n : ℕ). Some (n, (slice_index_or es place no_entry).1)) same;
}

pub read_place : (es : OlderNotes) (place id : ℕ) → IsInOrder es → IsAtPlace es id place → ◌≡◌ {A = Option Standing} (Some (slice_index_or es place no_entry).1) (standing_of es id)
read_place es place id order at =
    ap (λ (e : ℕ × Standing). Some e.1) (get_or_from_slice_get es place (id, at.standing) no_entry at.here)
    ∙ sym (there_at es place (id, at.standing) order at.here)

-- ---- the list and what stands beside it

pub standing_of_both : (rising others : OlderNotes) (id : ℕ) → standing_of (rising ++ others) id ≡ option_or (standing_of rising id) (standing_of others id)
standing_of_both rising others id = look-append rising others id

pub puts_first : (rising others new : OlderNotes) (id : ℕ) (at : Standing) → Puts id at rising new → Puts id at (rising ++ others) (new ++ others)
puts_first rising others new id at puts i =
    look-append new others i
    ∙ ap (λ (o : Option Standing). option_or o (standing_of others i)) (puts i)
    ∙ by (i == id)
    ∙ ap (λ (o : Option Standing). if i == id then Some at else o) (sym (look-append rising others i))
  where
    by : (p : Bool) → option_or (if p then Some at else standing_of rising i) (standing_of others i) ≡ (if p then Some at else option_or (standing_of rising i) (standing_of others i))
    by true = refl
    by false = refl

pub puts_second : (rising others new : OlderNotes) (id : ℕ) (at : Standing) → standing_of rising id ≡ None → Puts id at others new → Puts id at (rising ++ others) (rising ++ new)
puts_second rising others new id at none puts i =
    look-append rising new i
    ∙ ap (option_or (standing_of rising i)) (puts i)
    ∙ by (i == id) refl
    ∙ ap (λ (o : Option Standing). if i == id then Some at else o) (sym (look-append rising others i))
  where
    by : (p : Bool) → (i == id) ≡ p → option_or (standing_of rising i) (if p then Some at else standing_of others i) ≡ (if p then Some at else option_or (standing_of rising i) (standing_of others i))
    by true e = ap (λ (o : Option Standing). option_or o (Some at)) (ap (standing_of rising) (same-id i id e) ∙ none)
    by false e = refl

pub noted_second : (rising others : OlderNotes) (id : ℕ) → standing_of rising id ≡ None → is_some (standing_of (rising ++ others) id) ≡ true → is_some (standing_of others id) ≡ true
noted_second rising others id none there =
    sym (ap (λ (o : Option Standing). is_some (option_or o (standing_of others id))) none) ∙ sym (ap is_some (look-append rising others id)) ∙ there
