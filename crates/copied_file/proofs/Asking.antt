-- How a file and its copy stand behind a call that asked both.
use Rattle.std.proofs.Common.{◌≡◌, ℕ, ◌+◌, ◌<◌, Bool, true, false, Option, Some, None, IsSome, IsNone, Result, Ok, Err, IsOk, IsErr, OnOk, List, ◌∷◌, refl, sym, ap, ◌∙◌, subst, arith}
use Rattle.std.proofs.lemmas.Bool.{false≢true}
use Rattle.journal_file.specs.Device.{HasCause}
use Rattle.journal_file.specs.declared.device.DeviceFailed.{DeviceFailed}
use Rattle.journal_file.specs.History.{History, Call, seen_after, faults_in, fault_of}
use Rattle.copied_file.specs.Copied.{Copied, Agrees, asked, seen_at, seen_of_copy}

-- what there isn't
none_is_no_some : {L : Type 0} (copy : Option L) → IsNone copy → IsSome copy → ⊥
none_is_no_some None none some = cc
none_is_no_some (Some link) none some = cc

-- One of both failed: the file's faults are some, or the copy's last call is one.
gone_behind : {T E L : Type 0} (old : Copied) (file : History) (after : Option L) (kept : Result T E) (done : Bool) (call : Bool → Call)
    → (IsErr kept → 0 < faults_in file.calls) → fault_of (call false) ≡ 1 → (IsOk kept → done ≡ true → IsSome after)
    → IsNone after → 0 < faults_in file.calls + faults_in (call done ∷ old.now.copy.calls)
gone_behind old file after (Err why) done call cause tried goes none = omega (arith, cause refl)
gone_behind old file after (Ok x) false call cause tried goes none = omega (arith, tried)
gone_behind old file after (Ok x) true call cause tried goes none = absurd (none_is_no_some after none (goes refl refl))

-- what a read returns behind a call that is done, by what one returned before
abbrev pub Steps : Call → (List ℕ → List ℕ) → Type 0
Steps call step = (first : List ℕ) (calls : List Call) → seen_after first (call ∷ calls) ≡ step (seen_after first calls)

-- The copy is as the file where both did it.
alike_behind : {T E : Type 0} (old : Copied) (before file : History) (kept : Result T E) (call : Call) (step : List ℕ → List ℕ) → Steps call step
    → old.now.file ≡ before → seen_of_copy old.now ≡ seen_at old.now
    → OnOk kept (seen_after file.first file.calls ≡ step (seen_after before.first before.calls))
    → IsOk kept → seen_after old.now.copy.first (call ∷ old.now.copy.calls) ≡ seen_after file.first file.calls
alike_behind old before file (Ok x) call step steps is alike done ok =
    steps old.now.copy.first old.now.copy.calls ∙ ap step (alike ∙ ap (λ h. seen_after h.first h.calls) is) ∙ sym done
alike_behind old before file (Err why) call step steps is alike done ok = absurd (false≢true ok)

-- A call asked both, and the copy goes on where both did it.
pub agrees_behind : {T L : Type 0} (old : Copied) (before file : History) (copy after : Option L) (kept : Result T DeviceFailed) (done : Bool)
    (call : Bool → Call) (step : List ℕ → List ℕ) → Steps (call true) step → fault_of (call false) ≡ 1
    → Agrees before copy old → IsSome copy → HasCause (faults_in before.calls) (faults_in file.calls) kept
    → OnOk kept (seen_after file.first file.calls ≡ step (seen_after before.first before.calls))
    → (IsSome after → IsOk kept × (done ≡ true)) → (IsOk kept → done ≡ true → IsSome after)
    → Agrees file after (asked old file (call done))
agrees_behind old before file copy after kept done call step steps tried agrees some cause written stays goes =
    let same = alike_behind old before file kept (call true) step steps agrees.is (agrees.alike some) written in
    record {
      is = refl;
      counts = λ _. agrees.counts some;
      alike = λ there. subst (λ d. seen_after old.now.copy.first (call d ∷ old.now.copy.calls) ≡ seen_after file.first file.calls) (sym (stays there).1) (same (stays there).0);
      gone = λ none _. gone_behind old file after kept done call (λ failed. omega (arith, cause.failed failed)) tried goes none;
      counts_on = ((λ counts _. counts), agrees.counts_on);
    }
