-- What a load has still to send.
use Rattle.std.specs.Prelude.{◌≡◌, ℕ, ◌-◌, ◌<◌, ◌≤◌, List, [], ◌∷◌, ◌++◌, Option, Some, None, Result, Ok, Err}
use Rattle.osm_base.specs.declared.memory.Memory.{Memory}
use Rattle.osm_base.specs.declared.limits.TheConstants.{SESSION_LIMIT}
use Rattle.workload.specs.declared.sent.Sent.{Sent}
use Rattle.workload.specs.Request.{creations, uploads}

-- the requests after so many creations and uploads, the last of which left that number
abbrev pub left_after : ℕ → ℕ → ℕ → ℕ → ℕ → List Sent
left_after sessions count created sent number =
    creations (sessions - created) created ++ uploads (count - sent) sent sessions number

-- the sessions and the uploads that there are and those that are done
pub record IsUnderway (sessions count created sent : ℕ) : Type 0 where
  pub some_session : 0 < sessions
  pub few_sessions : sessions ≤ SESSION_LIMIT
  pub creations_within : created ≤ sessions
  pub uploads_within : sent ≤ count

-- the next request, where there is one
abbrev pub Gives : List Sent → List Sent → Result (Option Sent) Memory → Type 0
Gives old new (Ok (Some sent)) = old ≡ sent ∷ new
Gives old new (Ok None) = (old ≡ []) × (new ≡ [])
Gives old new (Err memory) = new ≡ old
