-- What a search by `clap` answers.
use Rattle.std.specs.Prelude.{◌≡◌, ◌≢◌, List, Option, Some, None, Result, Ok, Err, ⊤}
use Rattle.clap.specs.Words.{Row, found_of, rows_of}
use Rattle.clap.specs.declared.error.kind.ErrorKind.{ErrorKind}
use Rattle.clap.specs.declared.error.kind.ErrorKind.TheVariants.{OutOfMemory}
use Rattle.clap.specs.declared.parser.matches.ArgMatches.{ArgMatches}
use Rattle.osm_words.specs.declared.words.WordsFault.{WordsFault}
use Rattle.osm_words.specs.declared.words.WordsFault.TheVariants.{NoReading, Memory}

-- the fault is want of memory where the error is
abbrev pub Tells : ErrorKind → WordsFault → Type 0
Tells kind NoReading = kind ≢ OutOfMemory
Tells kind Memory = kind ≡ OutOfMemory

-- the matches are these, and there are none where none are found, but for want of memory
abbrev pub Finds : Option (List Row) → Result ArgMatches WordsFault → Type 0
Finds expected (Ok matches) = expected ≡ Some (rows_of (found_of matches))
Finds expected (Err NoReading) = expected ≡ None
Finds expected (Err Memory) = ⊤
