use Rattle.std.proofs.Common.{◌≡◌, List, subst}
use Rattle.std.specs.Prelude.{IsTrue}
use Rattle.osm_base.specs.declared.limits.TheConstants.{SESSION_LIMIT}
use Rattle.osm_model.specs.declared.commands.Entry.{Entry}
use Rattle.map_machine.specs.Machine.{map_rules}
use Rattle.snapshot_hub.specs.Closings.{AreSeated}
use Rattle.map_kept.proofs.server.MapJournalKeptJournalEntry.fits.Goals as goal

pub returns : goal.returns
returns c =
    let seated = AreSeated map_rules.tag_of SESSION_LIMIT in
    subst (λ (entries : List Entry). (IsTrue c.has_seats.result → seated entries) × (seated entries → IsTrue c.has_seats.result)) c.journal.ensures c.has_seats.ensures
