-- What `replay` reads, and what it writes.
use Rattle.std.specs.Prelude.{◌≡◌, ℕ, ◌⊎◌, List, length, Ok, Err}
use Rattle.osm_model.specs.declared.commands.Entry.{Entry}
use Rattle.osm_model.specs.Journal.{replay}
use Rattle.osm_outside.specs.Told.{Told}
use Rattle.workload.specs.Figures.{figures_of}
use Rattle.workload.specs.Summary.{replay_summary}
use Rattle.journal_text.specs.declared.faults.JournalFault.{JournalFault}
use Rattle.journal_text.specs.declared.faults.JournalFault.TheVariants.{Long, Header, Line, Illegal, Memory}
use Rattle.journal_input.specs.Input.{IsRead}
use Rattle.journal_input.specs.declared.faults.InputFault.{InputFault}
use Rattle.journal_input.specs.declared.faults.InputFault.TheVariants.{Failed, Text}
use Rattle.server_frame.specs.declared.exit.Exit.{Exit}
use Rattle.server_frame.specs.declared.exit.Exit.TheVariants.{NotRead, NoMemory, JournalRefused}
use Rattle.osm_serve.specs.Tell.{Tells}

-- the lines that tell of the replay of a journal
abbrev pub AreReplayLines : List Entry → List ℕ → Type 0
AreReplayLines journal text = text ≡ replay_summary (figures_of (replay journal).elements (length journal))

-- What stands before the gate of the input was read as the text of a journal, and then the lines of its replay were written.
pub record TellsReplay (before after : Told) (exit : Exit) : Type 0 where
  pub journal : List Entry
  pub between : Told
  pub read : IsRead {X = Unit {0}} before between journal (Ok tt)
  pub tells : Tells (AreReplayLines journal) between after exit

-- how a program ends by a fault of a text or of its input
abbrev pub exit_of_text : JournalFault → Exit
exit_of_text Memory = NoMemory
exit_of_text Long = JournalRefused
exit_of_text Header = JournalRefused
exit_of_text (Line n) = JournalRefused
exit_of_text (Illegal n) = JournalRefused

abbrev pub exit_of_input : InputFault → Exit
exit_of_input Failed = NotRead
exit_of_input (Text why) = exit_of_text why

-- Reading ended with a fault, and nothing was written.
pub record StopsReplay (before after : Told) (exit : Exit) : Type 0 where
  pub journal : List Entry
  pub fault : InputFault
  pub read : IsRead {X = Unit {0}} before after journal (Err fault)
  pub exit_is : exit ≡ exit_of_input fault

-- what `replay` comes to
abbrev pub Replays : Told → Told → Exit → Type 0
Replays before after exit = TellsReplay before after exit ⊎ StopsReplay before after exit
