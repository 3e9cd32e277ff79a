-- What a file holds of a list of entries, as that grows.
use Rattle.std.proofs.Common.{◌≡◌, ◌⊎◌, inl, inr, ⊎_elim, ℕ, zero, suc, ◌+◌, ◌≤◌, List, [], ◌∷◌, ◌++◌, length, take, refl, sym, ap, ◌∙◌, subst, arith, length-append}
use Rattle.std.proofs.lemmas.List.{take_all, take-append-le}
use Rattle.journal_file.specs.Device.{LeavesOnly}
use Rattle.journal_file.specs.Settled.{HasSome, Stands}
use Rattle.durable_log.specs.Held.{HaveALineEach, Holds, HoldsFrom}

take_past : {E : Type 0} (xs ys : List E) (n m : ℕ) → m ≡ length xs + n → take m (xs ++ ys) ≡ xs ++ take n ys
take_past [] ys n m is = let same : m ≡ n = omega arith in ap (λ (k : ℕ). take k ys) same
take_past (x ∷ xs) ys n zero is = absurd (omega arith)
take_past {E = E} (x ∷ xs) ys n (suc m) is = ap (λ (l : List E). x ∷ l) (take_past xs ys n m (omega arith))

module _ {E : Type 0} (text : List E → List ℕ) where
  pub holds_longer : (k : ℕ) (held more : List E) (c : List ℕ) → Holds text k held c → Holds text k (held ++ more) c
  holds_longer k held more c h = record {
    count = h.count;
    enough = h.enough;
    within = omega (arith, h.within, length-append held more);
    is = h.is ∙ ap text (sym (take-append-le h.count held more h.within));
    sound = h.sound;
  }

  pub holds_all : (k : ℕ) (all : List E) (c was : List ℕ) → k ≤ length all → Stands was c → was ≡ text all → Holds text k all c
  holds_all k all c was le stands is = record {
    count = length all;
    enough = le;
    within = omega arith;
    is = stands.is ∙ is ∙ ap text (sym (take_all (length all) all (omega arith)));
    sound = stands.sound;
  }

  -- what was promised of a list is kept of a longer one, by a device that is as it was
  pub stays_longer : {D : Type 0} (left_since : D → ℕ → List ℕ → Type 0) (old new : D) (t k : ℕ) (held more longer : List E)
      → new ≡ old → longer ≡ held ++ more → HoldsFrom text left_since old t k held → HoldsFrom text left_since new t k longer
  stays_longer left_since old new t k held more longer same is holds c left =
      subst (λ (l : List E). Holds text k l c) (sym is) (holds_longer k held more c (holds c (subst (λ (d : _). left_since d t c) same left)))

  -- a run that leaves the text keeps what each moment before promised
  pub run_stands : {D : Type 0} (moment : D → ℕ) (left_since : D → ℕ → List ℕ → Type 0) (old new : D) (was : List ℕ) (held : List E) (t k : ℕ)
      → LeavesOnly moment left_since old new (Stands was) → was ≡ text held → k ≤ length held → t ≤ moment old → HoldsFrom text left_since old t k held → HoldsFrom text left_since new t k held
  run_stands moment left_since old new was held t k run is enough le holds c left =
      ⊎_elim (λ (past : left_since old t c). holds c past) (λ (stands : Stands was c). holds_all k held c was enough stands is) (run.before t c le left)

  module _ (lines : List E → List ℕ) (more : (entries others : List E) → text (entries ++ others) ≡ text entries ++ lines others) where
    -- a run that leaves the text and a beginning of the lines keeps what each moment before promised
    pub run_holds : {D : Type 0} (moment : D → ℕ) (left_since : D → ℕ → List ℕ → Type 0) (old new : D) (was added : List ℕ) (held entries : List E) (t k : ℕ)
        → LeavesOnly moment left_since old new (HasSome was added)
        → HaveALineEach lines entries → was ≡ text held → added ≡ lines entries → k ≤ length held → t ≤ moment old → HoldsFrom text left_since old t k held → HoldsFrom text left_since new t k (held ++ entries)
    run_holds moment left_since old new was added held entries t k run each is adds enough le holds c left = by (run.before t c le left)
      where
        by : left_since old t c ⊎ HasSome was added c → Holds text k (held ++ entries) c
        by (inl past) = holds_longer k held entries c (holds c past)
        by (inr has) =
            let cut = each has.some has.rest has.whole (sym adds ∙ has.front) in
            record {
              count = length held + cut.0;
              enough = omega (arith, enough);
              within = omega (arith, cut.1, length-append held entries);
              is =
                  has.is
                  ∙ ap (λ (l : List ℕ). l ++ has.some) is
                  ∙ ap (λ (l : List ℕ). text held ++ l) cut.2
                  ∙ sym (more held (take cut.0 entries))
                  ∙ ap text (sym (take_past held entries cut.0 (length held + cut.0) refl));
              sound = has.sound;
            }
