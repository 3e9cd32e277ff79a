-- What a desk over a list is answered that keeps before it tells.
use Rattle.std.specs.Prelude.{◌≡◌, ℕ, ◌≤◌, true, false, ⊤, List, [], ◌∷◌, length}
use mathlib.Core.List.{IsPrefix}
use Rattle.osm_outside.specs.Event.{Shown}
use Rattle.http_wire.specs.declared.message.Message.{Message}
use Rattle.http_link.specs.declared.desk.Reply.{Reply}
use Rattle.http_link.specs.declared.desk.Withheld.{Withheld}
use Rattle.http_link.specs.declared.desk.Withheld.TheVariants.{Failed, Memory, Full, Mismatched}
use Rattle.durable_log.specs.Receipts.{last_count}
use Rattle.durable_log.specs.Receipts.{Receipt}
use Rattle.kept_desk.specs.Kept.{InHand}
use Rattle.step_hub.specs.Steps.{AtFront, at_front, Allows}

-- what its inner desk answers by; and how many entries its last reply may tell of, the receipts that it has in hand, and whether it has
-- withheld a reply because keeping failed
pub record AtKeptFront (C E : Type 0) : Type 0 where
  pub desk : AtFront C E
  pub keeper : InHand

-- a desk and its keeper
abbrev pub kept_front : {C E : Type 0} → AtFront C E → InHand → AtKeptFront C E
kept_front desk keeper = record { desk = desk; keeper = keeper }

-- a desk that has answered nothing, has seen this of the list, and has these receipts in hand
abbrev pub at_kept_front : {C E : Type 0} → C → List E → List Receipt → AtKeptFront C E
at_kept_front setting front receipts = kept_front (at_front setting front 0) (record { tells_of = 0; receipts = receipts; failed = false })

-- Its last receipt in hand is for all that its last reply may tell of.
abbrev pub Tells : {C E : Type 0} → AtKeptFront C E → Type 0
Tells it = it.keeper.tells_of ≤ last_count it.keeper.receipts

-- by what it lets its last reply be sent: the receipts that it has in hand, which the link is shown once
abbrev pub shows_kept : {C E : Type 0} → AtKeptFront C E → List Shown
shows_kept it = it.keeper.receipts ∷ []

-- why it may withhold its last reply: keeping failed, which it notes; or there was no memory, the file or the list of its receipts was full,
-- or they and the desk weren't of one list as far as could be seen, and of these nothing is said
abbrev pub Withholds : {C E : Type 0} → AtKeptFront C E → Withheld → Type 0
Withholds it Failed = it.keeper.failed ≡ true
Withholds it Memory = ⊤
Withholds it Full = ⊤
Withholds it Mismatched = ⊤

-- What the desk may answer, as the inner one may: the reply may tell of all that is seen of the list then. No receipt is lost, and no note
-- that keeping failed.
pub record AllowsKept {C E : Type 0} (steps : C → List E → Message → ℕ → Reply → List E → Type 0)
    (old : AtKeptFront C E) (message : Message) (moment : ℕ) (reply : Reply) (new : AtKeptFront C E) : Type 0 where
  pub answered : Allows steps old.desk message moment reply new.desk
  pub tells_of : new.keeper.tells_of ≡ length new.desk.front
  pub receipts : IsPrefix old.keeper.receipts new.keeper.receipts
  pub failed : old.keeper.failed ≡ true → new.keeper.failed ≡ true
