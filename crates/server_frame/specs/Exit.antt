-- How a program ends, and its status.
use Rattle.std.specs.Prelude.{◌≡◌, ℕ}
use Rattle.server_frame.specs.declared.exit.Exit.{Exit}
use Rattle.server_frame.specs.declared.exit.Exit.TheVariants.{Done, NoReading, UsersRefused, NotRead, NotWritten, NoMemory, NoLinks, MessageRefused, JournalRefused, NotKept}

-- the status that a program ends with
abbrev pub status_of_exit : Exit → ℕ
status_of_exit Done = 0
status_of_exit NoReading = 1
status_of_exit UsersRefused = 2
status_of_exit NotRead = 3
status_of_exit NotWritten = 4
status_of_exit NoMemory = 5
status_of_exit NoLinks = 6
status_of_exit MessageRefused = 7
status_of_exit JournalRefused = 8
status_of_exit NotKept = 9

-- The status is that of an exit of which this holds. No two exits have the same (`statuses_differ`), so it is the only one.
pub record TellsExit (comes_to : Exit → Type 0) (status : ℕ) : Type 0 where
  pub exit : Exit
  pub comes : comes_to exit
  pub status_is : status ≡ status_of_exit exit
