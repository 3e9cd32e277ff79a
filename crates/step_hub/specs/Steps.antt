-- What a message may be answered at a point of a list that only grows.
use Rattle.std.specs.Prelude.{◌≡◌, ◌⊎◌, ◌+◌, ℕ, List, [], ◌∷◌, ◌++◌, length}
use mathlib.Core.List.{IsPrefix}
use Rattle.http_wire.specs.declared.message.Message.{Message}
use Rattle.http_link.specs.declared.desk.Reply.{Reply}
use Rattle.http_link.specs.Desk.{memory_body}

-- the reply to want of memory
abbrev pub memory_reply : Reply
memory_reply = record { status = 503; body = memory_body }

-- The list stays, or has one entry more at its end.
abbrev pub GrowsByOne : {E : Type 0} → List E → List E → Type 0
GrowsByOne {E} old new = (new ≡ old) ⊎ ((entry : E) × (new ≡ old ++ entry ∷ []))

-- A message was answered by a step of a list that goes on from what was seen. What the step left is what is seen then. An entry that the
-- step added is counted.
pub record StepsOn {E : Type 0} (steps : List E → Message → ℕ → Reply → List E → Type 0)
    (old : List E) (grown : ℕ) (message : Message) (moment : ℕ) (reply : Reply) (new : List E) (count : ℕ) : Type 0 where
  pub found : List E
  pub begins : IsPrefix old found
  pub step : steps found message moment reply new
  pub grows : GrowsByOne found new
  pub counts : count + length found ≡ grown + length new

-- what a desk answers by: what all desks are told, the beginning of the list that it has seen, and how many entries its own answers have
-- added to the list
pub record AtFront (C E : Type 0) : Type 0 where
  pub setting : C
  pub front : List E
  pub grown : ℕ

abbrev pub at_front : {C E : Type 0} → C → List E → ℕ → AtFront C E
at_front setting front grown = record { setting = setting; front = front; grown = grown }

-- What the desk may answer, from what it was to what it is then.
pub record Allows {C E : Type 0} (steps : C → List E → Message → ℕ → Reply → List E → Type 0)
    (old : AtFront C E) (message : Message) (moment : ℕ) (reply : Reply) (new : AtFront C E) : Type 0 where
  pub setting : new.setting ≡ old.setting
  pub answered : StepsOn (steps old.setting) old.front old.grown message moment reply new.front new.grown
