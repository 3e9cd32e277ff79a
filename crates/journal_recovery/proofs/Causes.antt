-- Where each fault of taking up comes.
use Rattle.std.proofs.Common.{◌≡◌, ◌⊎◌, ℕ, ◌<◌, List, take, refl, inl, inr, subst, arith}
use Rattle.std.specs.Prelude.{All}
use Rattle.std.proofs.lemmas.List.Elements.{All-take}
use Rattle.durable_log.specs.Held.{Holds}
use Rattle.journal_recovery.specs.Restarts.{IsCause}
use Rattle.journal_recovery.specs.declared.restarting.RestartFault.{RestartFault}
use Rattle.journal_recovery.specs.declared.restarting.RestartFault.TheVariants.{Damaged, NoJournal, Memory, Failed}

module _ {E : Type 0} (text : List E → List ℕ) (is_entry : E → Type 0) (is_legal : List E → Type 0) where
  -- what is held of entries, of which each beginning is legal, is refused for want of memory or a failed call alone
  pub held_taken : (least : ℕ) (entries : List E) (file : List ℕ) (fault : RestartFault) (faults : ℕ) → All is_entry entries → ((count : ℕ) → is_legal (take count entries))
      → Holds text least entries file → IsCause text is_entry is_legal fault file faults → (fault ≡ Memory) ⊎ (fault ≡ Failed)
  held_taken least entries file Failed faults typed legal holds cause = inr refl
  held_taken least entries file Memory faults typed legal holds cause = inl refl
  held_taken least entries file Damaged faults typed legal holds cause = absurd (holds.sound cause)
  held_taken least entries file NoJournal faults typed legal holds cause =
      absurd (cause (take holds.count entries) (All-take is_entry holds.count entries typed) (legal holds.count) holds.is)

  -- what comes whatever the calls of the device did is no failed call
  pub not_failed : (fault : RestartFault) (file : List ℕ) → ((faults : ℕ) → IsCause text is_entry is_legal fault file faults) → fault ≡ Failed → ⊥
  not_failed fault file cause is =
      let none : 0 < 0 = subst (λ (f : RestartFault). IsCause text is_entry is_legal f file 0) is (cause 0) in
      absurd (omega (arith, none))
