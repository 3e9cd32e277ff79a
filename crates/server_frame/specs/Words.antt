-- How a program ends where the system gave it no words.
use Rattle.std.specs.declared.io.ErrorKind.{ErrorKind}
use Rattle.std.specs.declared.io.ErrorKind.TheVariants.{OutOfMemory}
use Rattle.server_frame.specs.declared.exit.Exit.{Exit}
use Rattle.server_frame.specs.declared.exit.Exit.TheVariants.{NoReading, NoMemory}

-- the exit where the system gave no words: want of memory, or words that are no text
abbrev pub exit_without_words : ErrorKind → Exit
exit_without_words OutOfMemory = NoMemory
exit_without_words _ = NoReading
