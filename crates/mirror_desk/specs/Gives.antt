-- A reading of a message gives what the definitions say, unless memory ran out.
use Rattle.std.specs.Prelude.{◌≡◌, ℕ, List, Result, Ok, Err, ⊤}
use Rattle.osm_change.specs.declared.refusals.Refusal.{Refusal}
use Rattle.desk_parts.specs.declared.faults.RequestFault.{RequestFault}
use Rattle.desk_parts.specs.declared.faults.RequestFault.TheVariants as fault
use Rattle.mirror_desk.specs.Request.{Ask, refuses, forbids, reads, states, takes, levels}
use Rattle.mirror_desk.specs.declared.requests.Request.{Request}
use Rattle.mirror_desk.specs.declared.requests.Request.TheVariants.{Forbidden, Read, State, Piece, Level}

-- what the desk's request asks, where this is the body of its message
abbrev pub shown_ask : List ℕ → Request → Ask
shown_ask body Forbidden = forbids
shown_ask body (Read q) = reads q
shown_ask body State = states
shown_ask body Piece = takes body
shown_ask body Level = levels

abbrev pub GivesAsked : Result Ask Refusal → List ℕ → Result Request RequestFault → Type 0
GivesAsked expected body (Ok made) = expected ≡ Ok (shown_ask body made)
GivesAsked expected body (Err fault.Memory) = ⊤
GivesAsked expected body (Err (fault.Refused r)) = expected ≡ Err r

abbrev pub GivesAsk : Ask → List ℕ → Result Request RequestFault → Type 0
GivesAsk expected body (Ok made) = expected ≡ shown_ask body made
GivesAsk expected body (Err fault.Memory) = ⊤
GivesAsk expected body (Err (fault.Refused r)) = expected ≡ refuses r
