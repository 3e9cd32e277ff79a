-- Listening by the users of a text, with a worker for each port, and how the program ends by that.
use Rattle.std.specs.Prelude.{◌≡◌, ℕ, ◌⊎◌, List, Ok, length}
use Rattle.osm_outside.specs.Told.{Told, Rose}
use Rattle.osm_outside.specs.Host.{HostTold, OnlyAsked, OnlyPorts}
use Rattle.osm_outside.specs.Lent.{hand_out}
use Rattle.osm_outside.specs.Port.{PortTold}
use Rattle.link_workers.specs.Back.{take_all}
use Rattle.user_table.specs.Users.{Users, table_of}
use Rattle.link_workers.specs.declared.outcome.Outcome.{Outcome}
use Rattle.link_workers.specs.declared.outcome.Outcome.TheVariants.{Served, Failed, Unkept, LacksMemory}
use Rattle.server_frame.specs.Users.{IsTextOf}
use Rattle.server_frame.specs.Standard.{RefusesUsers, LacksUsers, LacksRoom}
use Rattle.server_frame.specs.declared.exit.Exit.{Exit}
use Rattle.server_frame.specs.declared.exit.Exit.TheVariants.{Done, NoMemory, NoLinks, NotKept}

-- The users text at that path was read and accepted.
pub record AcceptsUsers (path : List ℕ) (host asked : HostTold) (users : Users) : Type 0 where
  pub text : List ℕ
  pub told : IsTextOf host text
  pub table : table_of text ≡ Ok users
  pub keeps : OnlyAsked path host asked

-- The users were read, and then so many ports at that address were handed out; the host was asked to listen at no other.
pub record OpensPorts (path address : List ℕ) (workers : ℕ) (host opened : HostTold) (users : Users) (ports : List PortTold) : Type 0 where
  -- the host as it was when the users were read
  pub asked : HostTold
  pub accepts : AcceptsUsers path host asked users
  pub listens : OnlyPorts address asked opened
  pub count : length ports ≡ workers
  pub lent : opened.lent ≡ hand_out asked.lent ports

-- Listening failed, and no port was handed out.
pub record LacksPorts (host host' : HostTold) (exit : Exit) : Type 0 where
  pub failed : Rose host.faults host'.faults
  pub lent : host'.lent ≡ host.lent
  pub exit_is : exit ≡ NoLinks

-- There was no memory, and no port was handed out.
pub record LacksRoomToListen (host host' : HostTold) (exit : Exit) : Type 0 where
  pub lent : host'.lent ≡ host.lent
  pub exit_is : exit ≡ NoMemory

-- The users were read, and the host was asked to listen at that address, but there were no ports.
pub record LacksLinks (path address : List ℕ) (host host' : HostTold) (exit : Exit) : Type 0 where
  pub users : Users
  pub asked : HostTold
  pub accepts : AcceptsUsers path host asked users
  pub listens : OnlyPorts address asked host'
  pub comes_to : LacksPorts asked host' exit ⊎ LacksRoomToListen asked host' exit

-- There were no users, and nobody listened.
pub record LacksUsersToServe (path : List ℕ) (host host' : HostTold) (before after : Told) (exit : Exit) : Type 0 where
  pub keeps : OnlyAsked path host host'
  pub comes_to : RefusesUsers host before after exit ⊎ LacksUsers host host' before after exit ⊎ LacksRoom before after exit

-- no port was handed out, and why, by the exit; the standard link was left alone
abbrev pub OpensNone : List ℕ → List ℕ → HostTold → HostTold → Told → Told → Exit → Type 0
OpensNone path address host host' before after exit =
    LacksUsersToServe path host host' before after exit ⊎ LacksLinks path address host host' exit

-- how a program ends by how serving ports did
abbrev pub exit_of_outcome : Outcome → Exit
exit_of_outcome Served = Done
exit_of_outcome Failed = NoLinks
exit_of_outcome LacksMemory = NoMemory
exit_of_outcome Unkept = NotKept

-- So many ports that the host handed out were served so by the users of the text, as ended so, and taken back: `NoLinks` only where accepting
-- failed at one, which its count shows; where there was no memory they came back as they were.
pub record ServesOpened (serves : Users → List PortTold → List PortTold → Outcome → Type 0)
    (path address : List ℕ) (workers : ℕ) (host host' : HostTold) (exit : Exit) : Type 0 where
  pub opened : HostTold
  pub users : Users
  pub ports : List PortTold
  pub opens : OpensPorts path address workers host opened users ports
  pub returned : List PortTold
  pub back : host' ≡ record opened { lent = take_all opened.lent returned }
  pub outcome : Outcome
  pub served : serves users ports returned outcome
  pub exit_is : exit ≡ exit_of_outcome outcome

-- what listening comes to, with the users of the text at that path, and so many workers at that address; the standard link is left alone
pub record RunsListening (serves : Users → List PortTold → List PortTold → Outcome → Type 0)
    (path address : List ℕ) (workers : ℕ) (host host' : HostTold) (before after : Told) (exit : Exit) : Type 0 where
  pub unserved : after ≡ before
  pub comes_to : ServesOpened serves path address workers host host' exit ⊎ OpensNone path address host host' before after exit
