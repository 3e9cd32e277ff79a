-- What a run of the program does, and how that ends.
use Rattle.std.specs.Prelude.{◌≡◌, ℕ, ◌⊎◌, List, Option, Some, None}
use Rattle.osm_outside.specs.Told.{Told}
use Rattle.osm_outside.specs.Host.{HostTold}
use Rattle.journal_host.specs.Told.{JournalsTold}
use Rattle.server_frame.specs.Standard.{RunsStandard, IsUnserved}
use Rattle.server_frame.specs.Listening.{RunsListening}
use Rattle.server_frame.specs.declared.exit.Exit.{Exit}
use Rattle.server_frame.specs.declared.exit.Exit.TheVariants.{NoReading, NoMemory}
use Rattle.osm_words.specs.declared.words.LoadOptions.{LoadOptions}
use Rattle.osm_words.specs.Words.{Reading, pipe, serve, measure, export, replay, notes, serve_notes}
use Rattle.map_machine.specs.Machine.{map_rules}
use Rattle.api_desk.specs.HubDesk.{map_row}
use Rattle.desk_serve.specs.Link.{ServesPipe}
use Rattle.desk_serve.specs.Ports.{ServesPorts}
use Rattle.notes_serve.specs.Run.{RunsNotes, RunsServeNotes}
use Rattle.osm_serve.specs.Measure.{AreLines}
use Rattle.osm_serve.specs.Export.{IsExport}
use Rattle.osm_serve.specs.Replay.{Replays}
use Rattle.osm_serve.specs.Tell.{Tells}
use Rattle.recovered_start.specs.Run.{LeavesFiles}
use Rattle.notes_kept.specs.Run.{RunsServeNotesKept}
use Rattle.map_kept.specs.Run.{RunsServeKept}

-- What serving links of the map comes to is told as for any machine, by the rules of the map and the rows of its desk: a list is sound
-- where the rules take each of its entries, and where after every entry visible ways and relations refer only to visible elements; each
-- reply is what the rules answer at a point of what the session has seen, or a call of the feed is answered there; what is accepted
-- stands there once and whole, what is refused not at all, and a want of memory that may have an entry is a debt.

-- what `pipe` comes to: the standard link is served by a new hub
abbrev pub RunsPipe : List ℕ → Option ℕ → HostTold → HostTold → Told → Told → Exit → Type 0
RunsPipe = RunsStandard (ServesPipe map_rules map_row)

-- what `serve` comes to: the links of so many ports at that address are served by a new hub
abbrev pub RunsServe : List ℕ → List ℕ → ℕ → HostTold → HostTold → Told → Told → Exit → Type 0
RunsServe = RunsListening (ServesPorts map_rules map_row)

-- what `measure` comes to, with the host left alone
pub record RunsMeasure (load : LoadOptions) (host host' : HostTold) (before after : Told) (exit : Exit) : Type 0 where
  pub host_stays : host' ≡ host
  pub tells : Tells (AreLines load) before after exit

-- what `export` comes to, with the host left alone
pub record RunsExport (load : LoadOptions) (host host' : HostTold) (before after : Told) (exit : Exit) : Type 0 where
  pub host_stays : host' ≡ host
  pub tells : Tells (IsExport load.seed load.sessions load.uploads) before after exit

-- what `replay` comes to, with the host left alone
pub record RunsReplay (host host' : HostTold) (before after : Told) (exit : Exit) : Type 0 where
  pub host_stays : host' ≡ host
  pub replays : Replays before after exit

-- over what a file that a journal is kept in tells: its bytes as they are now, the moments of its device, what a crash since one of them may
-- leave, and how often a call has failed
module _ {F : Type 0} (seen : F → List ℕ) (moment : F → ℕ) (left_since : F → ℕ → List ℕ → Type 0) (faults : F → ℕ) where
  -- what words come to: for those without a reading nothing is done
  abbrev pub ComesTo : Option Reading → JournalsTold F → JournalsTold F → HostTold → HostTold → Told → Told → Exit → Type 0
  ComesTo None = LeavesFiles (IsUnserved NoReading)
  ComesTo (Some (pipe users at)) = LeavesFiles (RunsPipe users at)
  ComesTo (Some (serve users address workers None)) = LeavesFiles (RunsServe users address workers)
  ComesTo (Some (serve users address workers (Some path))) = RunsServeKept seen moment left_since faults users address workers path
  ComesTo (Some (measure load)) = LeavesFiles (RunsMeasure load)
  ComesTo (Some (export load)) = LeavesFiles (RunsExport load)
  ComesTo (Some replay) = LeavesFiles RunsReplay
  ComesTo (Some (notes users at)) = LeavesFiles (RunsNotes users at)
  ComesTo (Some (serve_notes users address workers None)) = LeavesFiles (RunsServeNotes users address workers)
  ComesTo (Some (serve_notes users address workers (Some path))) = RunsServeNotesKept seen moment left_since faults users address workers path

  -- the same, or there was no memory for reading the words
  abbrev pub Runs : Option Reading → JournalsTold F → JournalsTold F → HostTold → HostTold → Told → Told → Exit → Type 0
  Runs reading journals journals' host host' before after exit =
      ComesTo reading journals journals' host host' before after exit ⊎ LeavesFiles (IsUnserved NoMemory) journals journals' host host' before after exit
