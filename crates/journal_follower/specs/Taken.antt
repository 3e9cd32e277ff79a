-- What a follower says of a piece, and what it keeps then.
use Rattle.std.specs.Prelude.{◌+◌, ◌-◌, ◌==◌, Bool, if◌then◌else◌, List, [], ◌∷◌, ◌++◌, length, slice_get, Option, Some, None, Result, Ok, Err}
use Rattle.std.specs.Str.{bytes_eq}
use Rattle.osm_base.specs.declared.memory.Memory.{Memory}
use Rattle.osm_model.specs.declared.commands.Entry.{Entry}
use Rattle.journal_text.specs.Kept.{may_follow}
use Rattle.journal_text.specs.Line.{line}
use Rattle.replication_feed.specs.declared.pieces.Piece.{Piece}
use Rattle.journal_follower.specs.declared.answers.Taken.{Taken}
use Rattle.journal_follower.specs.declared.answers.Taken.TheVariants.{Folded, Old, Differs, Gap, Illegal}

-- entries are told by their lines
abbrev pub is_same : Entry → Entry → Bool
is_same entry other = bytes_eq (line entry) (line other)

-- what is said of a piece, by the entry that is kept in its place, if there is one
abbrev pub taken_by : Option Entry → List Entry → Piece → Taken
taken_by (Some there) kept p = if is_same there p.entry then Old else Differs
taken_by None kept p =
    if p.number == length kept + 1 then (if may_follow kept p.entry then Folded else Illegal)
    else Gap (length kept + 1)

-- what is said of a piece where these entries are kept
abbrev pub taken : List Entry → Piece → Taken
taken kept p = taken_by (slice_get kept (p.number - 1)) kept p

-- what is kept after it was said: a folded entry stands at the end
abbrev pub kept_with : Taken → List Entry → Entry → List Entry
kept_with Folded kept e = kept ++ e ∷ []
kept_with Old kept e = kept
kept_with Differs kept e = kept
kept_with (Gap next) kept e = kept
kept_with Illegal kept e = kept

abbrev pub after : List Entry → Piece → List Entry
after kept p = kept_with (taken kept p) kept p.entry

-- what is kept after a call, which may have found no memory
abbrev pub after_call : Result Taken Memory → List Entry → Piece → List Entry
after_call (Ok answer) kept p = after kept p
after_call (Err memory) kept p = kept
