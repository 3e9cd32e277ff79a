-- What one turn of a link does: a message and its reply, or an end.
use Rattle.std.specs.Prelude.{◌≡◌, ℕ, ◌≤◌, ◌⊎◌, List, ◌∷◌, ◌++◌, [], map, Result, Ok, Err, IsErr, IfSome, if◌then◌else◌}
use Rattle.std.specs.List.{concat}
use Rattle.std.specs.Io.KnownBytes.{Consumes}
use Rattle.osm_outside.specs.Event.{Shown, Answered}
use Rattle.osm_outside.specs.Told.{Told, Rose}
use Rattle.osm_outside.specs.declared.outside.Failed.{Failed}
use Rattle.http_wire.specs.declared.message.Message.{Message}
use Rattle.http_wire.specs.declared.end.WireEnd.{WireEnd}
use Rattle.http_wire.specs.declared.end.WireEnd.TheVariants.{ReadFault}
use Rattle.http_wire.specs.Received.{Taken}
use Rattle.http_wire.specs.Reply.{reply}
use Rattle.http_wire.specs.Written.{WrittenWhole, WrittenInPart}
use Rattle.http_link.specs.declared.end.LinkEnd.{LinkEnd}
use Rattle.http_link.specs.declared.end.LinkEnd.TheVariants as ends
use Rattle.http_link.specs.declared.turn.Next.{Next}
use Rattle.http_link.specs.declared.turn.Next.TheVariants.{GoesOn, Over}
use Rattle.http_link.specs.declared.desk.Reply.{Reply}
use Rattle.http_link.specs.declared.desk.Withheld.{Withheld}
use Rattle.http_link.specs.Exchange.{Exchange, Allowing, Telling, closes, text_of}
use Rattle.http_link.specs.Refusal.{refusal, end_of}
use Rattle.http_link.specs.Turns.{Turn, events_of_turn, sending, ReadsTurn, ReadsEnd}

-- The pieces are all of the text, or at a fault a beginning of it.
abbrev pub Sends : List (List ℕ) → List ℕ → Result (Unit {0}) Failed → Type 0
Sends pieces text (Ok done) = concat pieces ≡ text
Sends pieces text (Err fault) = (missing : List ℕ) × (text ≡ concat pieces ++ missing)

-- an exchange of that message
abbrev pub exchange_of : Message → ℕ → Reply → List Shown → Exchange
exchange_of message moment answer shown = record { message = message; moment = moment; answer = answer; shown = shown }

-- The clock answered a moment, the desk gave the message a reply, receipts were shown, and it was sent.
pub record Replies {D : Type 0} (by : D → Exchange → D → Type 0)
    (old new : D) (before after : Told) (count : ℕ) (message : Message) (result : Result (Unit {0}) Failed)
    : Type 0 where
  pub moment : ℕ
  pub answer : Reply
  pub shown : List Shown
  pub pieces : List (List ℕ)
  pub allowed : by old (exchange_of message moment answer shown) new
  pub trace : after.trace ≡ before.trace ++ (Answered moment ∷ sending shown pieces)
  pub fixed : IfSome before.fixed (λ at. moment ≡ at)
  pub stays : after.fixed ≡ before.fixed
  pub sends : Sends pieces (reply answer.status answer.body (closes count message)) result
  pub input : after.left ≡ before.left
  pub read_faults : after.read_faults ≡ before.read_faults
  pub write_faults : before.write_faults ≤ after.write_faults

-- The clock answered a moment, the desk gave the message a reply, and nothing else happened.
pub record Holds {D : Type 0} (allows : D → Message → ℕ → Reply → D → Type 0) (old new : D) (before after : Told) (message : Message)
    : Type 0 where
  pub moment : ℕ
  pub answer : Reply
  pub allowed : allows old message moment answer new
  pub told : after ≡ record before { trace = before.trace ++ (Answered moment ∷ []) }
  pub fixed : IfSome before.fixed (λ at. moment ≡ at)

-- The desk let the reply be sent, which it was; or it had that cause to withhold it, and nothing was sent.
abbrev pub RepliesOrHolds : {D : Type 0} → (D → Message → ℕ → Reply → D → Type 0) → (D → Type 0) → (D → List Shown) → (D → Withheld → Type 0) → D → D → Told → Told → ℕ → Message
    → Result (Result (Unit {0}) Failed) Withheld → Type 0
RepliesOrHolds allows tells shows withholds old new before after count message (Ok result) =
    Replies (Telling allows tells shows) old new before after count message result
RepliesOrHolds allows tells shows withholds old new before after count message (Err why) = Holds allows old new before after message × withholds new why

-- The reply to an end was written, or a fault came.
abbrev pub Refuses : Told → Told → WireEnd → LinkEnd → Type 0
Refuses read after why end =
    (end ≡ end_of why) × WrittenWhole read after (refusal why)
    ⊎ (end ≡ ends.WriteFault) × WrittenInPart read after (refusal why) × Rose read.write_faults after.write_faults

-- what a turn leads to, where its message was answered
abbrev pub next_after : Message → Result (Unit {0}) Failed → Next
next_after message (Ok done) = if message.close then Over ends.Closed else GoesOn
next_after message (Err fault) = Over ends.WriteFault

-- `body_limit` is the most bytes that a body may have.
module _ (body_limit : ℕ) where
  -- A message was read and answered.
  pub record Step {D : Type 0} (by : D → Exchange → D → Type 0)
      (old new : D) (before after : Told) (kept left : List ℕ) (count : ℕ) (result : Result (Unit {0}) Failed)
      : Type 0 where
    pub turn : Turn
    pub reads : ReadsTurn body_limit kept turn left
    pub trace : after.trace ≡ before.trace ++ events_of_turn turn
    pub input : Consumes before.left after.left (concat turn.reads)
    pub allowed : by old turn.exchange new
    pub fixed : IfSome before.fixed (λ at. turn.exchange.moment ≡ at)
    pub stays : after.fixed ≡ before.fixed
    pub sends : Sends turn.writes (text_of count turn.exchange) result
    pub read_faults : before.read_faults ≤ after.read_faults
    pub write_faults : before.write_faults ≤ after.write_faults

  -- A message was read and answered, and nothing of its reply was sent.
  pub record Held {D : Type 0} (allows : D → Message → ℕ → Reply → D → Type 0)
      (old new : D) (before after : Told) (kept left : List ℕ) (count : ℕ) : Type 0 where
    pub in_place : Failed
    pub step : Step (Allowing allows) old new before after kept left count (Err in_place)
    pub unshown : step.turn.exchange.shown ≡ []
    pub unsent : step.turn.writes ≡ []

  -- What came in the place of a message was an end, and the desk wasn't asked.
  pub record Stop {D : Type 0} (old new : D) (before read : Told) (kept : List ℕ) (why : WireEnd) : Type 0 where
    pub pieces : List (List ℕ)
    pub taken : Taken before read pieces
    pub reads : ReadsEnd body_limit kept pieces why read.left
    pub fault : why ≡ ReadFault → Rose before.read_faults read.read_faults
    pub unasked : new ≡ old

  -- What one turn does: a reply is sent where the desk lets it, and else the desk has a cause to withhold it.
  abbrev pub TakesTurn : {D : Type 0} → (D → Message → ℕ → Reply → D → Type 0) → (D → Type 0) → (D → List Shown) → (D → Withheld → Type 0) → D → D → Told → Told → List ℕ → List ℕ → ℕ → Next → Type 0
  TakesTurn allows tells shows withholds old new before after kept left count next =
      ((result : Result (Unit {0}) Failed) × (s : Step (Telling allows tells shows) old new before after kept left count result)
      × (next ≡ next_after s.turn.exchange.message result) × (IsErr result → Rose before.write_faults after.write_faults))
      ⊎ ((read : Told) × (why : WireEnd) × (end : LinkEnd) × Stop old new before read kept why
      × Refuses read after why end × (next ≡ Over end))
      ⊎ ((why : Withheld) × Held allows old new before after kept left count × withholds new why × (next ≡ Over (ends.Unkept why)))
