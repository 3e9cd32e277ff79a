-- What bytes begin with.
use Rattle.std.specs.Prelude.{ℕ, List, Option, Some, None}
use Rattle.osm_base.specs.declared.limits.TheConstants.{BODY_LIMIT}
use Rattle.http_wire.specs.declared.message.Message.{Message}
use Rattle.http_wire.specs.declared.end.WireEnd.{WireEnd}
use Rattle.http_wire.specs.Message.{BeginsWith}
use Rattle.http_wire.specs.End.{EndsAs, IsTold}

-- The bytes come to an end where a message should begin.
abbrev pub HasNoMessage : List ℕ → Type 0
HasNoMessage bytes = (why : WireEnd) × IsTold why × EndsAs BODY_LIMIT bytes why

-- the message that the bytes begin with
abbrev pub BeginsAs : List ℕ → Option Message → Type 0
BeginsAs bytes (Some message) = (rest : List ℕ) × BeginsWith bytes message rest
BeginsAs bytes None = HasNoMessage bytes
