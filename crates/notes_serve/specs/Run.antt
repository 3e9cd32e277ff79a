-- What serving notes comes to, for a program, and how that ends.
use Rattle.std.specs.Prelude.{ℕ, List, Option}
use Rattle.osm_outside.specs.Told.{Told}
use Rattle.osm_outside.specs.Host.{HostTold}
use Rattle.server_frame.specs.Standard.{RunsStandard}
use Rattle.server_frame.specs.Listening.{RunsListening}
use Rattle.server_frame.specs.declared.exit.Exit.{Exit}
use Rattle.notes_core.specs.Machine.{note_rules}
use Rattle.notes_desk.specs.Desk.{note_row}
use Rattle.desk_serve.specs.Link.{ServesPipe}
use Rattle.desk_serve.specs.Ports.{ServesPorts}

-- the standard link is served by a new hub of notes
abbrev pub RunsNotes : List ℕ → Option ℕ → HostTold → HostTold → Told → Told → Exit → Type 0
RunsNotes = RunsStandard (ServesPipe note_rules note_row)

-- the links of so many ports at that address are served by a new hub of notes
abbrev pub RunsServeNotes : List ℕ → List ℕ → ℕ → HostTold → HostTold → Told → Told → Exit → Type 0
RunsServeNotes = RunsListening (ServesPorts note_rules note_row)
