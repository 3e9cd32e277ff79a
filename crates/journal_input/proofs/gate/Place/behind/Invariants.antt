use Rattle.std.proofs.Common.{◌++◌, ℕ, List, take}
use Rattle.journal_input.specs.Place.{Sees}
use Rattle.journal_input.proofs.gate.Place.behind.Given as goal

abbrev pub invariant-loop-byte : goal.invariant-loop-byte
invariant-loop-byte l = (text : List ℕ) → Sees l.fn.self text → Sees l.place (text ++ take l.byte-index l.piece)
