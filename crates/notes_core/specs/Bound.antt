-- How many comments notes have.
use Rattle.std.specs.Prelude.{ℕ, ◌+◌, ◌≤◌, All, length, Option, Some, None}
use Rattle.osm_base.specs.declared.limits.TheConstants.{COMMENT_LIMIT}
use Rattle.notes_core.specs.declared.notes.Note.{Note}
use Rattle.notes_core.specs.declared.notes.Notes.{Notes}

-- a closed note may have one more, the one that closed it
abbrev pub most_comments : Option ℕ → ℕ
most_comments None = COMMENT_LIMIT
most_comments (Some at) = COMMENT_LIMIT + 1

abbrev pub IsBounded : Note → Type 0
IsBounded n = length n.comments ≤ most_comments n.closed

abbrev pub AreBounded : Notes → Type 0
AreBounded S = All IsBounded S.notes
