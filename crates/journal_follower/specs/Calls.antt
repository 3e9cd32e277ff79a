-- Calls of `take`, one after another.
use Rattle.std.specs.Prelude.{◌≡◌, List, [], ◌∷◌, All, Contains, Result, Ok, Err, IfOk, ⊤}
use Rattle.osm_base.specs.declared.memory.Memory.{Memory}
use Rattle.osm_model.specs.declared.commands.Entry.{Entry}
use Rattle.replication_feed.specs.Piece.{pieces}
use Rattle.replication_feed.specs.declared.pieces.Piece.{Piece}
use Rattle.journal_follower.specs.Taken.{taken, after_call}
use Rattle.journal_follower.specs.declared.answers.Taken.{Taken}
use Rattle.journal_follower.specs.declared.answers.Taken.TheVariants.{Folded, Old, Differs, Gap, Illegal}

-- a call: the piece that is taken, and what comes of it
pub record Call : Type 0 where
  pub piece : Piece
  pub came : Result Taken Memory

-- what is kept after the calls
abbrev pub after_all : List Entry → List Call → List Entry
after_all kept [] = kept
after_all kept (c ∷ calls) = after_all (after_call c.came kept c.piece) calls

-- each call says of its piece what is said of it there, unless memory ran out
abbrev pub AreCalls : List Entry → List Call → Type 0
AreCalls kept [] = ⊤
AreCalls kept (c ∷ calls) = IfOk c.came (λ answer. answer ≡ taken kept c.piece) × AreCalls (after_call c.came kept c.piece) calls

-- the calls take pieces of that journal alone, in any order, some of them again and some never
abbrev pub AreOf : List Entry → List Call → Type 0
AreOf journal calls = All (λ c. Contains (pieces journal) c.piece) calls

-- it doesn't say that the piece is of another journal than what is kept
abbrev pub Agrees : Result Taken Memory → Type 0
Agrees (Ok Folded) = ⊤
Agrees (Ok Old) = ⊤
Agrees (Ok Differs) = ⊥
Agrees (Ok (Gap next)) = ⊤
Agrees (Ok Illegal) = ⊥
Agrees (Err memory) = ⊤
