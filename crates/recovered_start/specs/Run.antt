-- What a run of a server comes to whose journal is kept in a file.
use Rattle.std.specs.Prelude.{◌≡◌, ℕ, ◌⊎◌, List, length}
use Rattle.osm_outside.specs.Told.{Told}
use Rattle.osm_outside.specs.Host.{HostTold}
use Rattle.osm_outside.specs.Port.{PortTold}
use Rattle.journal_file.specs.Whole.{text_of}
use Rattle.journal_host.specs.Told.{JournalsTold, taken_back}
use Rattle.journal_file.specs.declared.disk.DiskFault.TheVariants as disk_faults
use Rattle.durable_log.specs.Held.{HoldsFrom}
use Rattle.journal_recovery.specs.TakenUp.{TakesUp, LacksJournal, ComesBack}
use Rattle.journal_recovery.specs.declared.restarting.RestartFault.TheVariants as restart_faults
use Rattle.journal_recovery.specs.declared.taking_up.Untaken.{Untaken}
use Rattle.journal_recovery.specs.declared.taking_up.Untaken.TheVariants.{NoFile, Refused}
use Rattle.user_table.specs.Users.{Users}
use Rattle.link_workers.specs.declared.outcome.Outcome.{Outcome}
use Rattle.server_frame.specs.Listening.{AcceptsUsers, LacksLinks, LacksUsersToServe, OpensPorts, ServesOpened}
use Rattle.server_frame.specs.declared.exit.Exit.{Exit}
use Rattle.server_frame.specs.declared.exit.Exit.TheVariants.{NotRead, NoMemory, JournalRefused}

-- what serving ports comes to that goes on from a journal, kept in this file as it was at last, by the users and the ports before and after
abbrev pub Serving : Type 0 → Type 0 → Type 1
Serving E F = List E → F → Users → List PortTold → List PortTold → Outcome → Type 0

-- over how a journal is written, what the fields of its entries allow, which entries may follow one another, which journals links are served
-- on from, and what serving them comes to
module _ {E F : Type 0} (text : List E → List ℕ) (is_entry : E → Type 0) (is_legal fits : List E → Type 0) (serves : Serving E F) where
  -- The users were read and accepted, the journal in the file was taken up, links were served on from there, and the file came back.
  pub record ServesTaken (users address : List ℕ) (workers : ℕ) (path : List ℕ) (journals journals' : JournalsTold F)
      (host host' : HostTold) (before after : Told) (exit : Exit) : Type 0 where
    pub journal : List E
    -- what the giver of files told once the file was given
    pub lent : JournalsTold F
    pub taken : TakesUp text is_entry is_legal path journals lent journal
    pub fit : fits journal
    -- the file as it was at last
    pub file : F
    pub back : journals' ≡ taken_back lent file
    pub served : ServesOpened (serves journal file) users address workers host host' exit
    pub link_stays : after ≡ before

-- There were no users: the giver of files wasn't asked for one, nobody listened, and the standard link was left alone.
pub record AsksNoFile {F : Type 0} (users : List ℕ) (journals journals' : JournalsTold F)
    (host host' : HostTold) (before after : Told) (exit : Exit) : Type 0 where
  pub files : journals' ≡ journals
  pub lacks : LacksUsersToServe users host host' before after exit

-- how a program ends by why no journal was taken up
abbrev pub exit_of_untaken : Untaken → Exit
exit_of_untaken (NoFile disk_faults.Missing) = NotRead
exit_of_untaken (NoFile disk_faults.Unfit) = NotRead
exit_of_untaken (NoFile disk_faults.Busy) = NotRead
exit_of_untaken (NoFile disk_faults.Failed) = NotRead
exit_of_untaken (NoFile disk_faults.Memory) = NoMemory
exit_of_untaken (Refused restart_faults.Failed) = NotRead
exit_of_untaken (Refused restart_faults.Memory) = NoMemory
exit_of_untaken (Refused restart_faults.Damaged) = JournalRefused
exit_of_untaken (Refused restart_faults.NoJournal) = JournalRefused

-- over what a file tells: the moments of its device, what a crash since one of them may leave, and how often a call has failed; and over the
-- same of a journal
module _ {F : Type 0} (moment : F → ℕ) (left_since : F → ℕ → List ℕ → Type 0) (faults : F → ℕ)
    {E : Type 0} (text : List E → List ℕ) (is_entry : E → Type 0) (is_legal fits : List E → Type 0) where
  -- The file at that path was given, it stands for a legal journal that links aren't served on from, and it came back.
  pub record DoesNotFit (path : List ℕ) (before after : JournalsTold F) (exit : Exit) : Type 0 where
    pub read : List ℕ
    pub file : F
    pub back : ComesBack moment left_since path before after read file
    pub journal : List E
    pub stands : text_of read ≡ text journal
    pub legal : is_legal journal
    pub unfit : fits journal → ⊥
    pub exit_is : exit ≡ JournalRefused

  -- No journal was taken up, and why.
  pub record TakesNone (path : List ℕ) (before after : JournalsTold F) (exit : Exit) : Type 0 where
    pub why : Untaken
    pub lacks : LacksJournal moment left_since faults text is_entry is_legal path before after why
    pub exit_is : exit ≡ exit_of_untaken why

  -- no journal was taken up that links are served on from
  abbrev pub LacksServed : List ℕ → JournalsTold F → JournalsTold F → Exit → Type 0
  LacksServed path before after exit = TakesNone path before after exit ⊎ DoesNotFit path before after exit

  -- The users were read and accepted, and no such journal was taken up: the host was asked for the users alone, and the standard link was
  -- left alone.
  pub record ServesNothing (users path : List ℕ) (journals journals' : JournalsTold F)
      (host host' : HostTold) (before after : Told) (exit : Exit) : Type 0 where
    pub table : Users
    pub accepts : AcceptsUsers users host host' table
    pub lacks : LacksServed path journals journals' exit
    pub link_stays : after ≡ before

  -- The users were read and accepted, and a journal was taken up, but no port was opened: its file came back, and every crash from then on
  -- leaves all of the journal. The standard link was left alone.
  pub record TakenUnserved (users address path : List ℕ) (journals journals' : JournalsTold F) (host host' : HostTold)
      (before after : Told) (exit : Exit) : Type 0 where
    pub journal : List E
    pub lent : JournalsTold F
    pub taken : TakesUp text is_entry is_legal path journals lent journal
    pub fit : fits journal
    pub file : F
    pub back : journals' ≡ taken_back lent file
    pub holds : HoldsFrom text left_since file (moment file) (length journal) journal
    pub lacks : LacksLinks users address host host' exit
    pub link_stays : after ≡ before

  -- nothing is served
  abbrev pub BeginsNone : List ℕ → List ℕ → List ℕ → JournalsTold F → JournalsTold F → HostTold → HostTold → Told → Told → Exit → Type 0
  BeginsNone users address path journals journals' host host' before after exit =
      TakenUnserved users address path journals journals' host host' before after exit
      ⊎ ServesNothing users path journals journals' host host' before after exit
      ⊎ AsksNoFile users journals journals' host host' before after exit

  -- what listening comes to with a journal in the file at a path
  abbrev pub RunsKept : Serving E F → List ℕ → List ℕ → ℕ → List ℕ → JournalsTold F → JournalsTold F → HostTold → HostTold → Told → Told → Exit → Type 0
  RunsKept serves users address workers path journals journals' host host' before after exit =
      ServesTaken text is_entry is_legal fits serves users address workers path journals journals' host host' before after exit
      ⊎ BeginsNone users address path journals journals' host host' before after exit

-- The users were read, a journal was taken up from the file at that path, and these ports were opened.
pub record BeginsKept {E F : Type 0} (text : List E → List ℕ) (is_entry : E → Type 0) (is_legal fits : List E → Type 0)
    (users address : List ℕ) (workers : ℕ) (path : List ℕ) (journals lent : JournalsTold F) (host opened : HostTold)
    (journal : List E) (table : Users) (ports : List PortTold) : Type 0 where
  pub taken : TakesUp text is_entry is_legal path journals lent journal
  pub fit : fits journal
  pub opens : OpensPorts users address workers host opened table ports

-- what words come to that name no file of a journal: none was asked for
pub record LeavesFiles {F : Type 0} (comes_to : HostTold → HostTold → Told → Told → Exit → Type 0) (journals journals' : JournalsTold F)
    (host host' : HostTold) (before after : Told) (exit : Exit) : Type 0 where
  pub files : journals' ≡ journals
  pub comes : comes_to host host' before after exit
