-- Writing one text on the standard link.
use Rattle.std.specs.Prelude.{◌≡◌, ℕ, ◌⊎◌, List}
use Rattle.osm_outside.specs.Told.{Told, Rose}
use Rattle.http_wire.specs.Written.{WrittenWhole, WrittenInPart}
use Rattle.server_frame.specs.Standard.{LacksRoom}
use Rattle.server_frame.specs.declared.exit.Exit.{Exit}
use Rattle.server_frame.specs.declared.exit.Exit.TheVariants.{Done, NotWritten}

-- The text was written whole, and nothing else happened on the link.
pub record WritesText (text : List ℕ) (before after : Told) (exit : Exit) : Type 0 where
  pub written : WrittenWhole before after text
  pub exit_is : exit ≡ Done

-- A beginning of the text was written, a fault came, and nothing else happened on the link.
pub record LosesText (text : List ℕ) (before after : Told) (exit : Exit) : Type 0 where
  pub written : WrittenInPart before after text
  pub failed : Rose before.write_faults after.write_faults
  pub exit_is : exit ≡ NotWritten

-- what writing a text comes to
abbrev pub Writes : List ℕ → Told → Told → Exit → Type 0
Writes text before after exit = WritesText text before after exit ⊎ LosesText text before after exit

-- A text of that kind was written.
pub record WritesOne (fits : List ℕ → Type 0) (before after : Told) (exit : Exit) : Type 0 where
  pub text : List ℕ
  pub fitting : fits text
  pub writes : Writes text before after exit

-- what a command that writes a text of that kind comes to
abbrev pub Tells : (List ℕ → Type 0) → Told → Told → Exit → Type 0
Tells fits before after exit = WritesOne fits before after exit ⊎ LacksRoom before after exit
