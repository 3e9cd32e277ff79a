-- How a link ends by the bytes of its input, where nothing fails.
use Rattle.std.specs.Prelude.{◌≡◌, ℕ, ◌+◌, ◌==◌, List, [], ◌∷◌, if◌then◌else◌, ⊤}
use Rattle.osm_base.specs.declared.limits.TheConstants.{REQUEST_LIMIT}
use Rattle.http_wire.specs.declared.message.Message.{Message}
use Rattle.http_wire.specs.declared.end.WireEnd.{WireEnd}
use Rattle.http_wire.specs.Message.{AreMessages}
use Rattle.http_wire.specs.End.{IsTold}
use Rattle.http_link.specs.declared.end.LinkEnd.{LinkEnd}
use Rattle.http_link.specs.declared.end.LinkEnd.TheVariants.{Closed, Budget, ReadFault, WriteFault, Unkept, Memory}
use Rattle.http_link.specs.Exchange.{Exchange, closes, messages_of}
use Rattle.http_link.specs.Refusal.{end_of}

-- the messages that are answered of these, before which so many were answered
abbrev pub answered_from : ℕ → List Message → List Message
answered_from count [] = []
answered_from count (m ∷ messages) = m ∷ (if closes count m then [] else answered_from (count + 1) messages)

-- how the link ends by these messages and the end behind them
abbrev pub end_from : ℕ → List Message → WireEnd → LinkEnd
end_from count [] why = end_of why
end_from count (m ∷ messages) why =
    if m.close then Closed else (if count + 1 == REQUEST_LIMIT then Budget else end_from (count + 1) messages why)

-- The bytes of the input alone tell this end.
abbrev pub IsByInput : LinkEnd → Type 0
IsByInput ReadFault = ⊥
IsByInput WriteFault = ⊥
IsByInput (Unkept why) = ⊥
IsByInput Memory = ⊥
IsByInput other = ⊤

-- `body_limit` is the most bytes that a body may have.
module _ (body_limit : ℕ) where
  -- These are the messages in an input and its end. Unless reading, writing or memory failed, or the desk held a reply back, the link answered all that it was to
  -- answer of them, and ended as it was to end.
  abbrev pub EndsByInput : List ℕ → List Exchange → LinkEnd → Type 0
  EndsByInput input exchanges end =
      (messages : List Message) × (why : WireEnd) × IsTold why × AreMessages body_limit input messages why
      × (IsByInput end → (end ≡ end_from 0 messages why) × (messages_of exchanges ≡ answered_from 0 messages))
