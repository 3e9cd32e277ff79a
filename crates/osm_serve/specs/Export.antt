-- What `export` writes.
use Rattle.std.specs.Prelude.{◌≡◌, ℕ, List, []}
use Rattle.osm_model.specs.declared.commands.Entry.{Entry}
use Rattle.workload.specs.Request.{requests}
use Rattle.journal_text.specs.Text.{text_of}
use Rattle.osm_serve.specs.declared.sending.Replies.{Replies}
use Rattle.osm_serve.specs.OneThread.{AreDone}
use Rattle.osm_serve.specs.Played.{Plays}

-- The text is that of the journal of a run of the load, in which no reply told of want of memory.
pub record IsExport (seed sessions uploads : ℕ) (text : List ℕ) : Type 0 where
  pub journal : List Entry
  pub replies : Replies
  pub plays : Plays seed sessions uploads journal replies
  pub none_lacking : replies.lacking ≡ 0
  -- the journal is that of the run on one thread
  pub done : AreDone plays.users (requests seed sessions uploads) [] journal
  pub text_is : text ≡ text_of journal
