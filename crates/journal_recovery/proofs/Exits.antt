-- How reading ends.
use Rattle.std.proofs.Common.{◌≡◌, ℕ, List, ◌++◌, refl, sym, subst}
use Rattle.std.specs.Prelude.{Result, Ok, Err, IfErr, IfOk, OnErr}
use Rattle.std.specs.Result.{IsErrAnd}
use Rattle.journal_recovery.specs.Parts.{AreOf, AreOfNone, IsRead}
use Rattle.journal_recovery.specs.Restarts.{HoldsNone, IsCause, fault_of}
use Rattle.journal_recovery.specs.declared.faults.TextFault.{TextFault}
use Rattle.journal_recovery.specs.declared.faults.TextFault.TheVariants.{Memory, NoJournal}
use Rattle.journal_recovery.specs.declared.restarting.RestartFault.{RestartFault}

module _ {E : Type 0} (lines : List E → List ℕ) (is_entry : E → Type 0) (text : List ℕ) where
  -- with this fault
  pub at_fault : {V : Type 0} (result : Result V TextFault) (items : V → List E) (fault : TextFault) → IsErrAnd result (λ told. told ≡ fault)
      → (fault ≡ NoJournal → AreOfNone lines is_entry text) → IsRead lines is_entry text items result
  at_fault (Ok v) items fault is cause = absurd is
  at_fault (Err told) items fault is cause = subst (λ (f : TextFault). f ≡ NoJournal → AreOfNone lines is_entry text) (sym is) cause

  -- with the entries of both parts, put together
  pub at_both : {V : Type 0} (result : Result V TextFault) (items : V → List E) (es more : List E)
      → ((all : List E) → all ≡ es ++ more → AreOf lines is_entry text all)
      → IfOk result (λ v. items v ≡ es ++ more) → OnErr result (result ≡ Err Memory) → IsRead lines is_entry text items result
  at_both (Ok v) items es more are is other = are (items v) is
  at_both (Err fault) items es more are is memory = λ told. cc

  -- what a result is known by, where it is this one
  pub of_ok : {V : Type 0} (result : Result V TextFault) (items : V → List E) (v : V) → result ≡ Ok v → IsRead lines is_entry text items result
      → AreOf lines is_entry text (items v)
  of_ok result items v is known = subst (λ r. IsRead lines is_entry text items r) is known

  pub of_err : {V : Type 0} (result : Result V TextFault) (items : V → List E) (fault : TextFault) → result ≡ Err fault → IsRead lines is_entry text items result
      → fault ≡ NoJournal → AreOfNone lines is_entry text
  of_err result items fault is known = subst (λ r. IsRead lines is_entry text items r) is known

module _ {E : Type 0} (text : List E → List ℕ) (is_entry : E → Type 0) (is_legal : List E → Type 0) where
  -- with a fault of the text of a file
  pub at_cause : {X : Type 0} (file : List ℕ) (result : Result X RestartFault) (fault : TextFault) → IsErrAnd result (λ told. told ≡ fault_of fault)
      → (fault ≡ NoJournal → HoldsNone text is_entry is_legal file) → IfErr result (λ told. (faults : ℕ) → IsCause text is_entry is_legal told file faults)
  at_cause file (Ok x) fault is cause = tt
  at_cause file (Err told) Memory is cause = subst (λ (f : RestartFault). (faults : ℕ) → IsCause text is_entry is_legal f file faults) (sym is) (λ faults. tt)
  at_cause file (Err told) NoJournal is cause = subst (λ (f : RestartFault). (faults : ℕ) → IsCause text is_entry is_legal f file faults) (sym is) (λ faults. cause refl)
