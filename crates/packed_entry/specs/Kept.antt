-- What bytes are kept, and the entry that they stand for.
use Rattle.std.specs.Prelude.{ℕ, List, [], false, None, Some, ⊤}
use Rattle.osm_change.specs.Change.{IsWellFormed}
use Rattle.osm_model.specs.declared.commands.Command.{Command}
use Rattle.osm_model.specs.declared.commands.Command.TheVariants.{CreateChangeset, Retag, CloseChangeset, Upload, Single, MakeRedaction, Redact, Unredact}
use Rattle.osm_model.specs.declared.commands.Entry.{Entry}
use Rattle.packed_entry.specs.Read.{Parsed, entry_at}

-- the changes of a command are well formed, which no bytes of it tell
abbrev pub HasChange : Command → Type 0
HasChange (CreateChangeset tags large_from) = ⊤
HasChange (Retag id tags) = ⊤
HasChange (CloseChangeset id) = ⊤
HasChange (Upload id ops) = IsWellFormed ops
HasChange (Single id ops) = IsWellFormed ops
HasChange (MakeRedaction title) = ⊤
HasChange (Redact key version redaction) = ⊤
HasChange (Unredact key version) = ⊤

-- a command was read, and its changes are well formed
abbrev pub Reads : Parsed Command → Type 0
Reads None = ⊥
Reads (Some p) = HasChange p.0

abbrev pub ReadsEntry : Parsed Entry → Type 0
ReadsEntry None = ⊥
ReadsEntry (Some p) = HasChange p.0.command

-- any entry
abbrev pub no_entry : Entry
no_entry = record { session = 0; call = 0; user = record { id = 0; name = []; moderator = false; limit = None }; stamp = 0; command = CloseChangeset 0 }

abbrev pub entry_or : Entry → Parsed Entry → Entry
entry_or other None = other
entry_or other (Some p) = p.0

-- the entry that the bytes stand for
unfoldable pub entry_in : List ℕ → Entry
entry_in bytes = entry_or no_entry (entry_at bytes)

-- the bytes stand for an entry
unfoldable pub ArePacked : List ℕ → Type 0
ArePacked bytes = ReadsEntry (entry_at bytes)
