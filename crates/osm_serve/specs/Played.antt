-- What a load comes to, from the empty journal on.
use Rattle.std.specs.Prelude.{◌≡◌, ℕ, List, [], length, count_by, Option}
use Rattle.osm_model.specs.declared.commands.Entry.{Entry}
use Rattle.osm_model.specs.Journal.{IsLegal, replay}
use Rattle.user_table.specs.Users.{Users}
use Rattle.workload.specs.Figures.{figures_of}
use Rattle.workload.specs.declared.sent.Sent.{Sent}
use Rattle.workload.specs.Users.{AreUsersOf}
use Rattle.workload.specs.Request.{requests}
use Rattle.osm_serve.specs.declared.play.Played.{Played}
use Rattle.osm_serve.specs.declared.sending.Replies.{Replies}
use Rattle.osm_serve.specs.OneThread.{AreDone}
use Rattle.osm_serve.specs.Sending.{AreSent, refuses, lacks_memory}

-- Requests were sent, and these are the numbers of their replies.
pub record AreReplied (users : Users) (load : List Sent) (old new : List Entry) (replies : Replies) : Type 0 where
  pub statuses : List (Option ℕ)
  pub sent : AreSent users load old new statuses
  pub all : replies.all ≡ length statuses
  pub refused : replies.refused ≡ count_by refuses statuses
  pub lacking : replies.lacking ≡ count_by lacks_memory statuses

-- The requests of a load were sent from the empty journal on, by its users, and made that journal.
pub record Plays (seed sessions uploads : ℕ) (journal : List Entry) (replies : Replies) : Type 0 where
  pub users : Users
  pub table : AreUsersOf sessions users
  pub legal : IsLegal journal
  pub sent : AreReplied users (requests seed sessions uploads) [] journal replies
  -- where no reply told of want of memory, the journal is that of the run on one thread
  pub done : replies.lacking ≡ 0 → AreDone users (requests seed sessions uploads) [] journal

-- The numbers are those of the run of a load.
pub record IsPlayed (seed sessions uploads : ℕ) (played : Played) : Type 0 where
  pub journal : List Entry
  pub plays : Plays seed sessions uploads journal played.replies
  pub figures : played.figures ≡ figures_of (replay journal).elements (length journal)
