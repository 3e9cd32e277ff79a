use Rattle.std.proofs.Common.{◌≡◌, List, subst}
use Rattle.std.specs.Prelude.{IsTrue}
use Rattle.osm_base.specs.declared.limits.TheConstants.{SESSION_LIMIT}
use Rattle.notes_core.specs.declared.commands.NoteEntry.{NoteEntry}
use Rattle.notes_core.specs.Machine.{note_rules}
use Rattle.snapshot_hub.specs.Closings.{AreSeated}
use Rattle.notes_kept.proofs.server.NotesJournalKeptJournalNoteEntry.fits.Goals as goal

pub returns : goal.returns
returns c =
    let seated = AreSeated note_rules.tag_of SESSION_LIMIT in
    subst (λ (entries : List NoteEntry). (IsTrue c.has_seats.result → seated entries) × (seated entries → IsTrue c.has_seats.result)) c.journal.ensures c.has_seats.ensures
