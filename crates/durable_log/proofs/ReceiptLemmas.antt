-- Receipts, as more of them are given.
use Rattle.std.proofs.Common.{◌≡◌, inl, inr, ℕ, ◌≤◌, Bool, true, false, List, [], ◌∷◌, ◌++◌, length, refl, sym, ap, ◌∙◌, subst, arith, append-nil}
use Rattle.std.proofs.lemmas.Bool.{cases_Bool}
use Rattle.std.specs.List.{AllByRecursion}
use Rattle.durable_log.specs.Held.{Holds, HoldsFrom}
use Rattle.durable_log.specs.Receipts.{last_count, IsKept, AreKept}
use Rattle.receipts.specs.declared.receipt.Receipt.{Receipt}

pub last_pushed : (receipts : List Receipt) (r : Receipt) → last_count (receipts ++ r ∷ []) ≡ r.count
last_pushed [] r = refl
last_pushed (a ∷ []) r = refl
last_pushed (a ∷ b ∷ rest) r = last_pushed (b ∷ rest) r

module _ {X : Type 0} where
  all_so : (P Q : X → Type 0) → ((x : X) → P x → Q x) → (xs : List X) → AllByRecursion P xs → AllByRecursion Q xs
  all_so P Q so [] all = tt
  all_so P Q so (x ∷ xs) all = (so x all.0, all_so P Q so xs all.1)

  all_pushed : (P : X → Type 0) (xs : List X) (x : X) → AllByRecursion P xs → P x → AllByRecursion P (xs ++ x ∷ [])
  all_pushed P [] x all one = (one, tt)
  all_pushed P (y ∷ xs) x all one = (all.0, all_pushed P xs x all.1 one)

module _ {E D : Type 0} (text : List E → List ℕ) (moment : D → ℕ) (left_since : D → ℕ → List ℕ → Type 0) where
  pub kept_on : (old new : D) (front longer : List E) (receipts : List Receipt) → moment old ≤ moment new → length front ≤ length longer
      → ((t k : ℕ) → k ≤ length front → t ≤ moment old → HoldsFrom text left_since old t k front → HoldsFrom text left_since new t k longer)
      → AreKept text moment left_since old front receipts → AreKept text moment left_since new longer receipts
  kept_on old new front longer receipts later grows each kept =
      all_so (IsKept text moment left_since old front) (IsKept text moment left_since new longer)
      (λ r was. record {
        within = omega (arith, was.within, grows);
        come = omega (arith, was.come, later);
        holds = each r.moment.at r.count was.within was.come was.holds;
      }) receipts kept

  pub kept_pushed : (device : D) (front : List E) (receipts : List Receipt) (r : Receipt) → r.count ≡ length front → r.moment.at ≡ moment device
      → HoldsFrom text left_since device r.moment.at r.count front → AreKept text moment left_since device front receipts → AreKept text moment left_since device front (receipts ++ r ∷ [])
  kept_pushed device front receipts r all now holds kept =
      all_pushed (IsKept text moment left_since device front) receipts r kept (record { within = omega arith; come = omega arith; holds = holds })

  -- after a receipt was given for this moment, or was not
  abbrev pub Given : D → ℕ → List Receipt → List Receipt → Bool → Type 0
  Given device count old new gave =
      (gave ≡ true → (r : Receipt) × (r.count ≡ count) × (r.moment.at ≡ moment device) × (new ≡ old ++ r ∷ [])) × (gave ≡ false → new ≡ old)

  pub after_give : (device : D) (front : List E) (old new : List Receipt) (gave : Bool) → Given device (length front) old new gave
      → HoldsFrom text left_since device (moment device) (length front) front → AreKept text moment left_since device front old → AreKept text moment left_since device front new
  after_give device front old new gave given holds kept = elim (cases_Bool gave) [
    | inl did ↦
        let g = given.0 did in
        let now : HoldsFrom text left_since device g.0.moment.at g.0.count front = λ c left.
        subst (λ (k : ℕ). Holds text k front c) (sym g.1) (holds c (subst (λ (t : ℕ). left_since device t c) g.2 left)) in
        subst (λ (l : List Receipt). AreKept text moment left_since device front l) (sym g.3) (kept_pushed device front old g.0 g.1 g.2 now kept)
    | inr not_so ↦ subst (λ (l : List Receipt). AreKept text moment left_since device front l) (sym (given.1 not_so)) kept
  ]

  pub last_given : (device : D) (count : ℕ) (old new : List Receipt) (gave : Bool) → Given device count old new gave → gave ≡ true → last_count new ≡ count
  last_given device count old new gave given did = let g = given.0 did in ap last_count g.3 ∙ last_pushed old g.0 ∙ g.1

  pub more_given : (device : D) (count : ℕ) (first old new : List Receipt) (gave : Bool) → first ≡ old → Given device count old new gave → (more : List Receipt) × (first ++ more ≡ new)
  more_given device count first old new gave same given = elim (cases_Bool gave) [
    | inl did ↦ let g = given.0 did in (g.0 ∷ [], ap (λ (l : List Receipt). l ++ g.0 ∷ []) same ∙ sym g.3)
    | inr not_so ↦ ([], append-nil first ∙ same ∙ sym (given.1 not_so))
  ]

  -- the first of what is kept
  pub first_kept : (device : D) (front : List E) (xs ys : List Receipt) → AreKept text moment left_since device front (xs ++ ys) → AreKept text moment left_since device front xs
  first_kept device front [] ys kept = tt
  first_kept device front (x ∷ xs) ys kept = (kept.0, first_kept device front xs ys kept.1)
