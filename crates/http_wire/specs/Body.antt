-- How a body is read, and how reading it stops before its end.
use Rattle.std.specs.Prelude.{◌≡◌, ℕ, ◌+◌, ◌<◌, ◌≤◌, List, [], ◌∷◌, ◌++◌, length, ⊤}
use Rattle.std.specs.List.{concat}
use Rattle.osm_base.specs.declared.limits.TheConstants.{HEAD_LIMIT}
use Rattle.osm_outside.specs.Told.{Told}
use Rattle.http_wire.specs.declared.end.WireEnd.{WireEnd}
use Rattle.http_wire.specs.declared.end.WireEnd.TheVariants.{Truncated, ReadFault, Memory}
use Rattle.http_wire.specs.Received.{Taken, HaveBytes, AgreesWithInput}

-- Each piece was read where all before it, joined, are fewer bytes than a body of that size.
abbrev pub AreShort : List ℕ → ℕ → List (List ℕ) → Type 0
AreShort before size [] = ⊤
AreShort before size (piece ∷ pieces) = (length before < size) × AreShort (before ++ piece) size pieces

-- What was kept before and what was read, joined, are this part of a body of that size, and then what is kept now.
pub record Delivers (old new : Told) (before : List ℕ) (size : ℕ) (part after : List ℕ) : Type 0 where
  pub pieces : List (List ℕ)
  pub taken : Taken old new pieces
  pub short : AreShort before size pieces
  pub some : HaveBytes pieces
  pub joined : before ++ concat pieces ≡ part ++ after

-- What stands there in place of a body: too few bytes, or at most a head's limit more where there was no memory.
abbrev pub LacksBody : List ℕ → ℕ → WireEnd → Type 0
LacksBody bytes size Truncated = length bytes < size
LacksBody bytes size ReadFault = length bytes < size
LacksBody bytes size Memory = length bytes ≤ size + HEAD_LIMIT
LacksBody bytes size other = ⊥

-- Why a body of that size wasn't read.
pub record BodyStops (old new : Told) (before : List ℕ) (size : ℕ) (why : WireEnd) : Type 0 where
  pub pieces : List (List ℕ)
  pub taken : Taken old new pieces
  pub short : AreShort before size pieces
  pub agrees : AgreesWithInput why pieces new.left
  pub lacks : LacksBody (before ++ concat pieces) size why
