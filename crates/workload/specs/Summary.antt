-- The lines that tell of a load's run, and those that tell of a replay.
use Rattle.std.specs.Prelude.{ℕ, List, ◌++◌, codes, decimal, Option, Some, None}
use Rattle.std.specs.Fmt.{signed_decimal}
use Rattle.osm_base.specs.Place.{Position}
use Rattle.workload.specs.declared.figures.Figures.{Figures}
use Rattle.workload.specs.declared.figures.Run.{Run}

-- where the first node stands
unfoldable pub first_line : Option Position → List ℕ
first_line (Some at) = codes "first " ++ signed_decimal at.lat7 ++ codes " " ++ signed_decimal at.lon7 ++ codes "\n"
first_line None = codes "first none\n"

-- what the journal and its map come to, but for the first node
unfoldable pub count_lines : Figures → List ℕ
count_lines figures =
    codes "entries " ++ decimal figures.entries ++ codes "\nnodes " ++ decimal figures.nodes ++ codes "\nways "
    ++ decimal figures.ways ++ codes "\nrelations " ++ decimal figures.relations ++ codes "\n"

-- what the load was
unfoldable pub load_lines : Run → List ℕ
load_lines run =
    codes "seed " ++ decimal run.seed ++ codes "\nsessions " ++ decimal run.sessions ++ codes "\nuploads "
    ++ decimal run.uploads ++ codes "\n"

-- how it was answered
unfoldable pub reply_lines : Run → List ℕ
reply_lines run = codes "replies " ++ decimal run.replies ++ codes "\nrefused " ++ decimal run.refused ++ codes "\n"

-- the ten lines of a run
unfoldable pub summary : Run → Figures → List ℕ
summary run figures = load_lines run ++ count_lines figures ++ reply_lines run ++ first_line figures.first

-- the five lines of a replay
unfoldable pub replay_summary : Figures → List ℕ
replay_summary figures = count_lines figures ++ first_line figures.first
