-- What stands in the place of a message.
use Rattle.std.specs.Prelude.{ℕ, ◌<◌, ◌≤◌, ◌⊎◌, List, length, take, drop, slice_range, Option, None, Some, ⊤}
use Rattle.osm_base.specs.declared.limits.TheConstants.{HEAD_LIMIT}
use Rattle.http_wire.specs.declared.head.Head.{Head}
use Rattle.http_wire.specs.declared.end.WireEnd.{WireEnd}
use Rattle.http_wire.specs.declared.end.WireEnd.TheVariants.{End, Truncated, BadHead, HeadLong, BadLength, BodyLong, Coded, ReadFault, Memory}
use Rattle.http_wire.specs.Block.{IsBlank, IsOpenBlock, HasNoBlock, IsBlockAt}
use Rattle.http_wire.specs.Head.{ReadsHead, RefusesBlock}

-- the end where the input ends, by where a head block begins, if it has begun
abbrev pub input_ended : Option ℕ → WireEnd
input_ended None = End
input_ended (Some begin) = Truncated

-- `body_limit` is the most bytes that a body may have.
module _ (body_limit : ℕ) where
  -- The head is whole, and the body isn't.
  pub record IsOpenBody (bytes : List ℕ) : Type 0 where
    pub begin : ℕ
    pub end : ℕ
    pub block : IsBlockAt bytes begin end
    pub limit : end ≤ HEAD_LIMIT
    pub kept : Head
    pub head : ReadsHead body_limit (slice_range bytes begin end) kept
    pub short : length (drop end bytes) < kept.length

  -- The bytes tell no message and no end, but that the input may end here.
  abbrev pub IsUnfinished : List ℕ → Type 0
  IsUnfinished bytes = (HasNoBlock bytes × (length bytes < HEAD_LIMIT)) ⊎ IsOpenBody bytes

  -- A message has begun, and isn't whole.
  abbrev pub IsCut : List ℕ → Type 0
  IsCut bytes = (IsOpenBlock bytes × (length bytes < HEAD_LIMIT)) ⊎ IsOpenBody bytes

  -- The bytes, from the end of the message before them on, come to this end.
  abbrev pub EndsAs : List ℕ → WireEnd → Type 0
  EndsAs bytes End = IsBlank bytes × (length bytes < HEAD_LIMIT)
  EndsAs bytes Truncated = IsCut bytes
  EndsAs bytes HeadLong = (HEAD_LIMIT ≤ length bytes) × HasNoBlock (take HEAD_LIMIT bytes)
  EndsAs bytes BadHead = RefusesBlock body_limit bytes BadHead
  EndsAs bytes Coded = RefusesBlock body_limit bytes Coded
  EndsAs bytes BadLength = RefusesBlock body_limit bytes BadLength
  EndsAs bytes BodyLong = RefusesBlock body_limit bytes BodyLong
  -- reading failed before the next message was whole
  EndsAs bytes ReadFault = IsUnfinished bytes
  EndsAs bytes Memory = ⊤

-- The bytes alone tell this end. A fault in reading and want of memory may come at any bytes.
abbrev pub IsTold : WireEnd → Type 0
IsTold ReadFault = ⊥
IsTold Memory = ⊥
IsTold other = ⊤

-- The bytes so far tell this end, whatever follows. The others wait for the end of the input.
abbrev pub IsSettled : WireEnd → Type 0
IsSettled End = ⊥
IsSettled Truncated = ⊥
IsSettled ReadFault = ⊥
IsSettled Memory = ⊥
IsSettled other = ⊤
