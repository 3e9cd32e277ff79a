-- What `measure` writes.
use Rattle.std.specs.Prelude.{◌≡◌, ℕ, List}
use Rattle.workload.specs.declared.figures.Run.{Run}
use Rattle.workload.specs.Summary.{summary}
use Rattle.osm_serve.specs.declared.play.Played.{Played}
use Rattle.osm_serve.specs.declared.sending.Replies.{Replies}
use Rattle.osm_serve.specs.Played.{IsPlayed}
use Rattle.osm_words.specs.declared.words.LoadOptions.{LoadOptions}

-- what the load was, and how it was answered
abbrev pub run_of : LoadOptions → Replies → Run
run_of load replies = record {
  seed = load.seed;
  sessions = load.sessions;
  uploads = load.uploads;
  replies = replies.all;
  refused = replies.refused;
}

-- The text is the lines of a run of the load: of its replies, and of the journal that it came to from the empty one.
pub record AreLines (load : LoadOptions) (text : List ℕ) : Type 0 where
  pub played : Played
  pub plays : IsPlayed load.seed load.sessions load.uploads played
  pub lines : text ≡ summary (run_of load played.replies) played.figures
