-- What a run of a mirror does, and how that ends.
use Rattle.std.specs.Prelude.{ℕ, ◌⊎◌, ⊤, List, Option, Some, None}
use Rattle.osm_outside.specs.Told.{Told}
use Rattle.osm_outside.specs.Host.{HostTold}
use Rattle.journal_host.specs.Told.{JournalsTold}
use Rattle.osm_words.specs.Words.{MirrorReading, standard, listens}
use Rattle.server_frame.specs.Standard.{RunsStandard, IsUnserved}
use Rattle.server_frame.specs.Listening.{RunsListening}
use Rattle.server_frame.specs.declared.exit.Exit.{Exit}
use Rattle.server_frame.specs.declared.exit.Exit.TheVariants.{NoReading, NoMemory}
use Rattle.mirror_serve.specs.Serve.{ServesMirror}
use Rattle.mirror_serve.specs.Mirrors.{MirrorsPorts, MirrorsKeptPorts}
use Rattle.mirror_desk.specs.Setting.{setting_of}
use Rattle.recovered_start.specs.Run.{RunsKept, LeavesFiles, Serving}
use Rattle.journal_text.specs.Line.{IsEntry}
use Rattle.journal_text.specs.Text.{text_of}
use Rattle.osm_model.specs.Journal.{IsLegal}
use Rattle.osm_model.specs.declared.commands.Entry.{Entry}

-- Where it is told for how many seconds the mirror counts as level, reads may be told that it isn't known to be (`setting_of`).

-- what serving the standard link comes to
abbrev pub RunsLink : Option ℕ → List ℕ → Option ℕ → HostTold → HostTold → Told → Told → Exit → Type 0
RunsLink until_level = RunsStandard (λ table. ServesMirror (setting_of until_level table))

-- what listening comes to: the links of so many ports at that address are served by one mirror
abbrev pub RunsListen : Option ℕ → List ℕ → List ℕ → ℕ → HostTold → HostTold → Told → Told → Exit → Type 0
RunsListen until_level = RunsListening (λ table. MirrorsPorts (setting_of until_level table))

-- over what a file that a journal is kept in tells: its bytes as they are now, the moments of its device, what a crash since one of them may
-- leave, and how often a call has failed
module _ {F : Type 0} (seen : F → List ℕ) (moment : F → ℕ) (left_since : F → ℕ → List ℕ → Type 0) (faults : F → ℕ) where
  -- what serving ports on from a journal comes to, by the users
  abbrev pub mirrors_kept : Option ℕ → Serving Entry F
  mirrors_kept until_level journal file users = MirrorsKeptPorts seen moment left_since faults journal file (setting_of until_level users)

  -- what listening with a journal comes to
  abbrev pub RunsListenKept : Option ℕ → List ℕ → List ℕ → ℕ → List ℕ → JournalsTold F → JournalsTold F → HostTold → HostTold → Told → Told → Exit → Type 0
  RunsListenKept until_level = RunsKept moment left_since faults text_of IsEntry IsLegal (λ _. ⊤) (mirrors_kept until_level)

  -- what words come to: for those without a reading nothing is done
  abbrev pub ComesTo : Option MirrorReading → JournalsTold F → JournalsTold F → HostTold → HostTold → Told → Told → Exit → Type 0
  ComesTo None = LeavesFiles (IsUnserved NoReading)
  ComesTo (Some (standard users at until_level)) = LeavesFiles (RunsLink until_level users at)
  ComesTo (Some (listens users address workers None until_level)) = LeavesFiles (RunsListen until_level users address workers)
  ComesTo (Some (listens users address workers (Some path) until_level)) = RunsListenKept until_level users address workers path

  -- the same, or there was no memory for reading the words
  abbrev pub Runs : Option MirrorReading → JournalsTold F → JournalsTold F → HostTold → HostTold → Told → Told → Exit → Type 0
  Runs reading journals journals' host host' before after exit =
      ComesTo reading journals journals' host host' before after exit ⊎ LeavesFiles (IsUnserved NoMemory) journals journals' host host' before after exit
