-- What a file leaves by which nobody was served.
use Rattle.std.proofs.Common.{◌≡◌, ◌≤◌, ℕ, Bool, false, List, [], ◌∷◌, length, sym, ap, ◌∙◌, subst, append-nil}
use mathlib.Core.List.{IsPrefix}
use Rattle.durable_log.specs.Held.{Holds as HoldsSome, HoldsFrom, LeavesAll}
use Rattle.durable_log.specs.Receipts.{Receipt, IsKept, AreKept}
use Rattle.link_workers.specs.declared.outcome.Outcome.{Outcome}
use Rattle.link_workers.specs.declared.outcome.Outcome.TheVariants.{Served, Failed, Unkept, LacksMemory}
use Rattle.kept_serve.specs.Ports.{EndsSo, EndsSealed, IsSealedWith}

module _ {E D : Type 0} (text : List E → List ℕ) (moment : D → ℕ) (left_since : D → ℕ → List ℕ → Type 0) (faults : D → ℕ) where
  -- every crash from now on leaves just these entries
  abbrev pub Holds : D → List E → Type 0
  Holds device entries = HoldsFrom text left_since device (moment device) (length entries) entries

  -- what is said of the file where memory lacked before the first link
  abbrev pub Left : D → List E → Type 0
  Left device J = LeavesAll text moment left_since device J × (faults device ≡ 0)

  leaves : (device : D) (J : List E) → Holds device J → LeavesAll text moment left_since device J
  leaves device J holds = record {
    list = J;
    begins = ([], append-nil J);
    holds = holds;
  }

  -- a device that is as it was
  pub as_before : (old new : D) (J : List E) → new ≡ old → Holds old J → faults old ≡ 0 → Left new J
  as_before old new J same holds fine = (leaves new J (subst (λ (d : D). Holds d J) (sym same) holds), ap faults same ∙ fine)

  -- a device that holds a front still, which is all of the journal
  pub unshelved : (old new : D) (J front : List E) → front ≡ J → (Holds old front → Holds new front) → Holds old J → faults new ≡ 0 → Left new J
  unshelved old new J front same stays holds fine =
      (leaves new J (subst (λ (l : List E). Holds new l) same (stays (subst (λ (l : List E). Holds old l) (sym same) holds))), fine)

  -- a device that leaves such a front
  pub left_front : (device : D) (J front : List E) → front ≡ J → LeavesAll text moment left_since device front → faults device ≡ 0 → Left device J
  left_front device J front same all fine = (subst (λ (l : List E). LeavesAll text moment left_since device l) same all, fine)

  -- a device whose shelf has given one receipt, which is for all of these
  pub kept_all : (may_leave : D → List ℕ → Type 0)
      → ((d : D) (t : ℕ) (c : List ℕ) → t ≤ moment d → may_leave d c → left_since d t c)
      → ((d : D) (c : List ℕ) → left_since d (moment d) c → may_leave d c)
      → (old new : D) (entries first : List E) (receipts : List Receipt) (r : Receipt) → new ≡ old → receipts ≡ r ∷ [] → r.count ≡ length first → IsPrefix first entries
      → AreKept text moment left_since old entries receipts → LeavesAll text moment left_since new first
  kept_all may_leave counts only old new entries first receipts r same one count begins kept =
      let all = subst (λ (l : List Receipt). AreKept text moment left_since old entries l) one kept in
      let is : IsKept text moment left_since old entries r = all.0 in
      subst (λ (d : D). LeavesAll text moment left_since d first) (sym same) (record {
        list = entries;
        begins = begins;
        holds = λ c left. subst (λ (n : ℕ). HoldsSome text n entries c) count (is.holds c (counts old r.moment.at c is.come (only old c left)));
      })

module _ {E D : Type 0} (text : List E → List ℕ) (seen : D → List ℕ) where
  -- a device that was sealed or full where none of its calls had failed, by how serving ended
  pub ends_sealed : (entries : List E) (was device : D) (failed broken : Bool) (outcome : Outcome) → device ≡ was → EndsSo failed broken outcome
      → (broken ≡ false → IsSealedWith text seen entries was) → EndsSealed text seen device outcome
  ends_sealed entries was device failed broken Served same ends sealed = (entries, subst (IsSealedWith text seen entries) (sym same) (sealed ends.1))
  ends_sealed entries was device failed broken Failed same ends sealed = (entries, subst (IsSealedWith text seen entries) (sym same) (sealed ends.1))
  ends_sealed entries was device failed broken Unkept same ends sealed = tt
  ends_sealed entries was device failed broken LacksMemory same ends sealed = tt
