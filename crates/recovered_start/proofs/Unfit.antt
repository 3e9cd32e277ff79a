-- A file that was taken up, and a journal of it that isn't gone on from.
use Rattle.std.proofs.Common.{◌≡◌, ℕ, List, length, refl, sym, ap, ◌∙◌, subst, arith}
use Rattle.std.proofs.lemmas.List.{take_all}
use Rattle.journal_host.specs.Told.{JournalsTold, taken_back}
use Rattle.durable_log.specs.Held.{HoldsFrom}
use Rattle.journal_recovery.specs.Restarts.{StandsFor, LeavesSound}
use Rattle.journal_recovery.specs.TakenUp.{TakesUp}
use Rattle.server_frame.specs.declared.exit.Exit.TheVariants.{JournalRefused}
use Rattle.recovered_start.specs.Run.{DoesNotFit}

-- A file that stands for a journal, and isn't damaged, holds all of it.
pub holds_whole : {F E : Type 0} (moment : F → ℕ) (left_since : F → ℕ → List ℕ → Type 0) (text : List E → List ℕ) (file : F) (held : List ℕ) (journal : List E)
    → StandsFor moment left_since file held → LeavesSound moment left_since file → held ≡ text journal
    → HoldsFrom text left_since file (moment file) (length journal) journal
holds_whole moment left_since text file held journal stands sound is c left = record {
  count = length journal;
  enough = omega arith;
  within = omega arith;
  is = stands c left ∙ is ∙ ap text (sym (take_all (length journal) journal (omega arith)));
  sound = sound c left;
}

module _ {F E : Type 0} (moment : F → ℕ) (left_since : F → ℕ → List ℕ → Type 0) (faults : F → ℕ)
    (text : List E → List ℕ) (is_entry : E → Type 0) (is_legal fits : List E → Type 0) where
  -- its file came back, open as it was taken up
  pub does_not_fit : (path : List ℕ) (before lent after : JournalsTold F) (journal : List E) (open_file device : F) (held : List ℕ)
      → TakesUp text is_entry is_legal path before lent journal → held ≡ text journal → after ≡ taken_back lent device → device ≡ open_file
      → StandsFor moment left_since open_file held → (fits journal → ⊥)
      → DoesNotFit moment left_since faults text is_entry is_legal fits path before after JournalRefused
  does_not_fit path before lent after journal open_file device held taken holds back is stands unfit = record {
    read = taken.read;
    file = device;
    back = record {
      back = back ∙ ap (λ (t : JournalsTold F). taken_back t device) taken.given;
      leaves =
          subst (λ (t : List ℕ). StandsFor moment left_since device t) (holds ∙ sym taken.stands)
          (subst (λ (d : F). StandsFor moment left_since d held) (sym is) stands);
    };
    journal = journal;
    stands = taken.stands;
    legal = taken.legal;
    unfit = unfit;
    exit_is = refl;
  }
