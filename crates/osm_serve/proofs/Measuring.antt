-- What `measure` comes to, from what its calls do.
use Rattle.std.proofs.Common.{◌≡◌, ℕ, List, Result, Ok, Err, IfOk}
use Rattle.osm_base.specs.declared.memory.Memory.{Memory}
use Rattle.workload.specs.Summary.{summary}
use Rattle.osm_serve.specs.declared.play.Played.{Played}
use Rattle.osm_serve.specs.Played.{IsPlayed}
use Rattle.osm_words.specs.declared.words.LoadOptions.{LoadOptions}
use Rattle.osm_serve.specs.Measure.{AreLines, run_of}

pub lines_from : (load : LoadOptions) (played : Played) (result : Result (List ℕ) Memory) → IsPlayed load.seed load.sessions load.uploads played
    → IfOk result (λ made. made ≡ summary (run_of load played.replies) played.figures) → IfOk result (AreLines load)
lines_from load played (Ok text) plays lines = record { played = played; plays = plays; lines = lines }
lines_from load played (Err memory) plays lines = tt
