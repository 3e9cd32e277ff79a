-- What the versions of the form have members for.
use Rattle.std.specs.Prelude.{◌≡◌, Bool, true, ◌&&◌, is_none}
use Rattle.osm_model.specs.declared.commands.Command.{Command}
use Rattle.osm_model.specs.declared.commands.Command.TheVariants.{CreateChangeset, Retag, CloseChangeset, Upload, Single, MakeRedaction, Redact, Unredact}
use Rattle.osm_model.specs.declared.commands.Entry.{Entry}
use Rattle.journal_text.specs.Line.{IsEntry}
use Rattle.journal_text.specs.declared.versions.Version.{Version}
use Rattle.journal_text.specs.declared.versions.Version.TheVariants.{One, Two}

-- no creation that tells from when new changesets are large
abbrev pub tells_no_moment : Command → Bool
tells_no_moment (CreateChangeset tags large_from) = is_none large_from
tells_no_moment (Retag id tags) = true
tells_no_moment (CloseChangeset id) = true
tells_no_moment (Upload id ops) = true
tells_no_moment (Single id ops) = true
tells_no_moment (MakeRedaction title) = true
tells_no_moment (Redact key version redaction) = true
tells_no_moment (Unredact key version) = true

-- its line has neither `limit` nor `large_from`
abbrev pub has_no_limits : Entry → Bool
has_no_limits e = is_none e.user.limit && tells_no_moment e.command

-- version 1 has no member for a limit, and version 2 has one for each part of an entry
abbrev pub fits : Version → Entry → Bool
fits One e = has_no_limits e
fits Two e = true

abbrev pub Fits : Version → Entry → Type 0
Fits version e = fits version e ≡ true

-- what the types of an entry say of it, where it fits the version
pub record IsEntryIn (version : Version) (e : Entry) : Type 0 where
  pub typed : IsEntry e
  pub fits : Fits version e
