-- What a desk that keeps before it tells may answer, by what its inner desk may.
use Rattle.std.proofs.Common.{◌≡◌, ℕ, true, List, length, sym, ◌∙◌, subst}
use mathlib.Core.List.{IsPrefix}
use Rattle.http_wire.specs.declared.message.Message.{Message}
use Rattle.http_link.specs.declared.desk.Reply.{Reply}
use Rattle.durable_log.specs.Receipts.{Receipt}
use Rattle.kept_desk.specs.Kept.{InHand}
use Rattle.step_hub.specs.Steps.{AtFront, Allows}
use Rattle.step_hub.proofs.Beginnings.{prefix_self, prefix_trans}
use Rattle.kept_steps.specs.Kept.{AtKeptFront, kept_front, AllowsKept}

module _ {C E : Type 0} (steps : C → List E → Message → ℕ → Reply → List E → Type 0) where
  -- the reply may tell of all that the inner desk has seen then
  pub answered_so : (old : AtKeptFront C E) (message : Message) (moment : ℕ) (reply : Reply) (desk : AtFront C E) (keeper : InHand)
      → Allows steps old.desk message moment reply desk → keeper.tells_of ≡ length desk.front → keeper.receipts ≡ old.keeper.receipts
      → keeper.failed ≡ old.keeper.failed → AllowsKept steps old message moment reply (kept_front desk keeper)
  answered_so old message moment reply desk keeper allowed all same noted = record {
    answered = allowed;
    tells_of = all;
    receipts = subst (λ (l : List Receipt). IsPrefix old.keeper.receipts l) (sym same) (prefix_self old.keeper.receipts);
    failed = λ was. noted ∙ was;
  }

  -- what was allowed is so with more receipts in hand
  pub still_allowed : (old mid : AtKeptFront C E) (message : Message) (moment : ℕ) (reply : Reply) (keeper : InHand)
      → keeper.tells_of ≡ mid.keeper.tells_of → IsPrefix mid.keeper.receipts keeper.receipts → (mid.keeper.failed ≡ true → keeper.failed ≡ true)
      → AllowsKept steps old message moment reply mid
      → AllowsKept steps old message moment reply (kept_front mid.desk keeper)
  still_allowed old mid message moment reply keeper same more noted allowed = record {
    answered = allowed.answered;
    tells_of = same ∙ allowed.tells_of;
    receipts = prefix_trans old.keeper.receipts mid.keeper.receipts keeper.receipts allowed.receipts more;
    failed = λ was. noted (allowed.failed was);
  }
