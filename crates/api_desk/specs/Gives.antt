-- A reading of a message gives what the definitions say, unless memory ran out.
use Rattle.std.specs.Prelude.{◌≡◌, Some, Result, Ok, Err, ⊤}
use Rattle.osm_change.specs.declared.refusals.Refusal.{Refusal}
use Rattle.osm_base.specs.declared.memory.Memory.{Memory}
use Rattle.osm_change.specs.declared.answers.Answer.TheVariants as answer
use Rattle.osm_model.specs.Answered.{refused, does, reads}
use Rattle.http_link.specs.declared.desk.Reply.{Reply}
use Rattle.desk_parts.specs.declared.faults.RequestFault.{RequestFault}
use Rattle.desk_parts.specs.declared.faults.RequestFault.TheVariants as fault
use Rattle.api_desk.specs.declared.requests.Request.{Request as Made}
use Rattle.api_desk.specs.declared.requests.Request.TheVariants.{Change, Read, Feed}
use Rattle.api_desk.specs.Answers.{reply_of}
use Rattle.api_desk.specs.Feed.{says}
use Rattle.api_desk.specs.Request.{Ask, of_map, of_feed}

abbrev pub Gives : {A : Type 0} → Result A Refusal → Result A RequestFault → Type 0
Gives expected (Ok made) = expected ≡ Ok made
Gives expected (Err fault.Memory) = ⊤
Gives expected (Err (fault.Refused r)) = expected ≡ Err r

-- the request that the desk's one stands for
abbrev pub shown_request : Made → Ask
shown_request (Change asked) = of_map (does asked.user asked.command)
shown_request (Read q) = of_map (reads q)
shown_request (Feed call) = of_feed call

abbrev pub GivesAsked : Result Ask Refusal → Result Made RequestFault → Type 0
GivesAsked expected (Ok made) = expected ≡ Ok (shown_request made)
GivesAsked expected (Err fault.Memory) = ⊤
GivesAsked expected (Err (fault.Refused r)) = expected ≡ Err r

abbrev pub GivesRequest : Ask → Result Made RequestFault → Type 0
GivesRequest expected (Ok made) = expected ≡ shown_request made
GivesRequest expected (Err fault.Memory) = ⊤
GivesRequest expected (Err (fault.Refused r)) = expected ≡ of_map (refused r)

-- the reply tells the refusal; want of memory has no reply
abbrev pub TellsFault : RequestFault → Result Reply Memory → Type 0
TellsFault cause (Err memory) = ⊤
TellsFault fault.Memory (Ok reply) = ⊥
TellsFault (fault.Refused r) (Ok reply) = reply ≡ reply_of (Some (says (answer.Refused r)))
