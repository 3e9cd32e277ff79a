-- What a run of the map server comes to whose journal is kept in a file.
use Rattle.std.specs.Prelude.{ℕ, List}
use Rattle.osm_base.specs.declared.limits.TheConstants.{SESSION_LIMIT}
use Rattle.osm_outside.specs.Told.{Told}
use Rattle.osm_outside.specs.Host.{HostTold}
use Rattle.journal_host.specs.Told.{JournalsTold}
use Rattle.journal_text.specs.Line.{IsEntry}
use Rattle.journal_text.specs.Text.{text_of}
use Rattle.recovered_start.specs.Run.{Serving, RunsKept}
use Rattle.server_frame.specs.declared.exit.Exit.{Exit}
use Rattle.kept_serve.specs.Ports.{ServesKeptPorts, EndsSealed}
use Rattle.osm_model.specs.Journal.{IsLegal}
use Rattle.osm_model.specs.declared.commands.Entry.{Entry}
use Rattle.map_machine.specs.Machine.{map_rules}
use Rattle.api_desk.specs.HubDesk.{map_row}
use Rattle.snapshot_hub.specs.Closings.{AreSeated}

-- over what a file that a journal is kept in tells: its bytes as they are now, the moments of its device, what a crash since one of them may
-- leave, and how often a call has failed
module _ {F : Type 0} (seen : F → List ℕ) (moment : F → ℕ) (left_since : F → ℕ → List ℕ → Type 0) (faults : F → ℕ) where
  -- The ports were served by a hub that began with this journal, kept in this file as it was at last, which is sealed where no call of it failed.
  abbrev pub ServesFrom : Serving Entry F
  ServesFrom journal file users before after outcome =
      ServesKeptPorts map_rules map_row text_of moment left_since faults users journal file before after outcome × EndsSealed text_of seen file outcome

  -- what `serve` with a journal comes to
  abbrev pub RunsServeKept : List ℕ → List ℕ → ℕ → List ℕ → JournalsTold F → JournalsTold F → HostTold → HostTold → Told → Told → Exit → Type 0
  RunsServeKept = RunsKept moment left_since faults text_of IsEntry IsLegal (AreSeated map_rules.tag_of SESSION_LIMIT) ServesFrom
