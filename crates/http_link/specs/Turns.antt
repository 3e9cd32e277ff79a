-- The turns of a link, and what happens in each, in order.
use Rattle.std.specs.Prelude.{◌≡◌, ℕ, ◌+◌, ◌≤◌, List, [], ◌∷◌, ◌++◌, length, map, Option, ⊤}
use Rattle.std.specs.List.{concat}
use Rattle.osm_base.specs.declared.limits.TheConstants.{HEAD_LIMIT}
use Rattle.osm_outside.specs.Event.{Event, Shown, Gave, Took, Answered, Showed}
use Rattle.http_wire.specs.declared.end.WireEnd.{WireEnd}
use Rattle.http_wire.specs.Received.{HaveBytes, AgreesWithInput}
use Rattle.http_wire.specs.Message.{BeginsWithin}
use Rattle.http_wire.specs.End.{EndsAs}
use Rattle.http_wire.specs.Wire.{AreNeeded, end_limit}
use Rattle.http_link.specs.Exchange.{Exchange, text_of}

-- one turn: what each read gave until the message was whole, then the exchange with its moment and what was shown, then what each write
-- of its reply took
pub record Turn : Type 0 where
  pub reads : List (List ℕ)
  pub exchange : Exchange
  pub writes : List (List ℕ)

-- what follows the last turn: reads that come to an end, then what each write of the reply to it took
pub record Ending : Type 0 where
  pub reads : List (List ℕ)
  pub writes : List (List ℕ)

-- nothing follows
abbrev pub no_ending : Ending
no_ending = record { reads = []; writes = [] }

-- the receipts that were shown, each time, and then the writes
abbrev pub sending : List Shown → List (List ℕ) → List Event
sending shown writes = map Showed shown ++ map Took writes

-- the reads, the clock, what was shown, the writes
abbrev pub events_of_turn : Turn → List Event
events_of_turn turn = map Gave turn.reads ++ (Answered turn.exchange.moment ∷ sending turn.exchange.shown turn.writes)

-- all that happened, in order
abbrev pub events_of : List Turn → Ending → List Event
events_of [] ending = map Gave ending.reads ++ map Took ending.writes
events_of (turn ∷ turns) ending = events_of_turn turn ++ events_of turns ending

abbrev pub exchanges_of : List Turn → List Exchange
exchanges_of turns = map (λ turn. turn.exchange) turns

-- the bytes that all reads gave, joined
abbrev pub bytes_of : List Turn → Ending → List ℕ
bytes_of [] ending = concat ending.reads
bytes_of (turn ∷ turns) ending = concat turn.reads ++ bytes_of turns ending

-- Each reply was written whole in its own turn. Before the first turn so many requests were answered.
abbrev pub AreWritten : ℕ → List Turn → Type 0
AreWritten count [] = ⊤
AreWritten count (turn ∷ turns) = (concat turn.writes ≡ text_of count turn.exchange) × AreWritten (count + 1) turns

-- `body_limit` is the most bytes that a body may have.
module _ (body_limit : ℕ) where
  -- What was kept and what the reads gave, joined, begins with the message, and at most a head's limit of bytes is left
  -- behind it. Nothing was read once the message was whole.
  pub record ReadsTurn (kept : List ℕ) (turn : Turn) (left : List ℕ) : Type 0 where
    pub needed : AreNeeded body_limit kept turn.reads
    pub some : HaveBytes turn.reads
    pub begins : BeginsWithin body_limit (kept ++ concat turn.reads) turn.exchange.message left
    pub limit : length left ≤ HEAD_LIMIT

  -- Each turn reads its message behind what the turn before it left.
  abbrev pub AreRead : List ℕ → List Turn → List ℕ → Type 0
  AreRead kept [] left = left ≡ kept
  AreRead kept (turn ∷ turns) left = (behind : List ℕ) × ReadsTurn kept turn behind × AreRead behind turns left

  -- What was kept and what the reads gave, joined, comes to that end, and nothing was read once it was told.
  pub record ReadsEnd (kept : List ℕ) (reads : List (List ℕ)) (why : WireEnd) (left : Option (List ℕ)) : Type 0 where
    pub needed : AreNeeded body_limit kept reads
    pub agrees : AgreesWithInput why reads left
    pub limit : length (kept ++ concat reads) ≤ end_limit body_limit why
    pub ends : EndsAs body_limit (kept ++ concat reads) why
