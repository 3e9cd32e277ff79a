-- Serving the standard link of a program by the users of a text, and how the program ends by that.
use Rattle.std.specs.Prelude.{◌≡◌, ℕ, ◌⊎◌, List, Option, Some, None, Ok}
use Rattle.osm_outside.specs.Told.{Told, Rose}
use Rattle.osm_outside.specs.Host.{HostTold, OnlyAsked}
use Rattle.http_link.specs.declared.desk.Withheld.TheVariants as withheld
use Rattle.http_link.specs.declared.end.LinkEnd.{LinkEnd}
use Rattle.http_link.specs.declared.end.LinkEnd.TheVariants.{Ended, Closed, Budget, Refused, ReadFault, WriteFault, Unkept, Memory}
use Rattle.user_table.specs.Users.{Users, table_of}
use Rattle.server_frame.specs.Users.{IsTextOf, IsRefused}
use Rattle.server_frame.specs.declared.exit.Exit.{Exit}
use Rattle.server_frame.specs.declared.exit.Exit.TheVariants.{Done, UsersRefused, NotRead, NotWritten, NoMemory, MessageRefused, NotKept}

-- how a program ends by an end of its standard link
abbrev pub exit_of_end : LinkEnd → Exit
exit_of_end Ended = Done
exit_of_end Closed = Done
exit_of_end Budget = Done
exit_of_end ReadFault = NotRead
exit_of_end WriteFault = NotWritten
exit_of_end Memory = NoMemory
exit_of_end (Unkept withheld.Memory) = NoMemory
exit_of_end (Unkept withheld.Full) = NoMemory
exit_of_end (Unkept withheld.Mismatched) = NoMemory
exit_of_end (Unkept withheld.Failed) = NotKept
exit_of_end (Refused why) = MessageRefused

-- The clock is fixed where a moment is given, and nothing else is changed.
abbrev pub IsStarted : Option ℕ → Told → Told → Type 0
IsStarted None before after = after ≡ before
IsStarted (Some at) before after = after ≡ record before { fixed = Some at }

-- The standard link was served so from its start to an end, by which the program ends.
pub record ServesFrom (serves : Users → Told → Told → LinkEnd → Type 0) (users : Users) (at : Option ℕ)
    (before after : Told) (exit : Exit) : Type 0 where
  pub start : Told
  pub started : IsStarted at before start
  pub end : LinkEnd
  pub served : serves users start after end
  pub exit_is : exit ≡ exit_of_end end

-- The users text was read and accepted, and the link served so.
pub record ServesRead (serves : Users → Told → Told → LinkEnd → Type 0) (at : Option ℕ) (host : HostTold)
    (before after : Told) (exit : Exit) : Type 0 where
  pub text : List ℕ
  pub told : IsTextOf host text
  pub users : Users
  pub table : table_of text ≡ Ok users
  pub served : ServesFrom serves users at before after exit

-- The users text was read and refused, and the link left alone.
pub record RefusesUsers (host : HostTold) (before after : Told) (exit : Exit) : Type 0 where
  pub text : List ℕ
  pub told : IsTextOf host text
  pub refused : IsRefused text
  pub unserved : after ≡ before
  pub exit_is : exit ≡ UsersRefused

-- The host failed, and the link was left alone.
pub record LacksUsers (host host' : HostTold) (before after : Told) (exit : Exit) : Type 0 where
  pub failed : Rose host.faults host'.faults
  pub unserved : after ≡ before
  pub exit_is : exit ≡ NotRead

-- There was no memory, and the link was left alone.
pub record LacksRoom (before after : Told) (exit : Exit) : Type 0 where
  pub unserved : after ≡ before
  pub exit_is : exit ≡ NoMemory

-- What serving the standard link so comes to, with the users of the text at that path, and with the clock fixed at that moment where
-- one is given.
pub record RunsStandard (serves : Users → Told → Told → LinkEnd → Type 0) (path : List ℕ) (at : Option ℕ)
    (host host' : HostTold) (before after : Told) (exit : Exit) : Type 0 where
  pub keeps : OnlyAsked path host host'
  pub comes_to :
      ServesRead serves at host before after exit
      ⊎ RefusesUsers host before after exit
      ⊎ LacksUsers host host' before after exit
      ⊎ LacksRoom before after exit

-- The host and the link were left alone, and the program ended so.
pub record IsUnserved (wanted : Exit) (host host' : HostTold) (before after : Told) (exit : Exit) : Type 0 where
  pub host_stays : host' ≡ host
  pub link_stays : after ≡ before
  pub exit_is : exit ≡ wanted
