-- What a message asks, where its line, its body and its caller are known.
use Rattle.std.proofs.Common.{◌≡◌, ℕ, Bool, false, List, Option, Result, Ok, Err, refl, ap}
use Rattle.osm_base.specs.Outcome.{◌>>=◌, refuse_if}
use Rattle.osm_base.specs.declared.people.User.{User}
use Rattle.osm_change.specs.declared.refusals.Refusal.{Refusal}
use Rattle.osm_change.specs.declared.refusals.Refusal.TheVariants.{Xml}
use Rattle.http_wire.specs.declared.message.Message.{Message}
use Rattle.user_table.specs.Users.{Users}
use Rattle.desk_parts.specs.Media.{is_xml}
use Rattle.desk_parts.specs.Callers.{caller_of}
use Rattle.desk_parts.specs.declared.faults.RequestFault.{RequestFault}
use Rattle.desk_parts.specs.declared.faults.RequestFault.TheVariants.{Memory, Refused}
use Rattle.mirror_desk.specs.Gives.{GivesAsked, GivesAsk}
use Rattle.mirror_desk.specs.Request.{Ask, line_of, asked_by, asked, ask_in}
use Rattle.mirror_desk.specs.declared.lines.Line.{Line}
use Rattle.mirror_desk.specs.declared.requests.Request.{Request}

passed : (a : Result Line Refusal) (xml : Bool) (k : Result (Option User) Refusal) (line : Line) (caller : Option User) (large_from : Option ℕ) (body : List ℕ)
    → a ≡ Ok line → xml ≡ false → k ≡ Ok caller
    → (a >>= λ line. refuse_if xml Xml >>= λ no_xml. k >>= λ caller. asked_by large_from caller body line) ≡ asked_by large_from caller body line
passed a xml k line caller large_from body on plain known = rw (on, plain, known) refl

pub asked_so : (users : Users) (m : Message) (line : Line) (caller : Option User)
    → line_of m ≡ Ok line → is_xml m ≡ false → caller_of users m ≡ Ok caller
    → asked users m ≡ asked_by users.large_from caller m.body line
unfolding asked
asked_so users m line caller = passed (line_of m) (is_xml m) (caller_of users m) line caller users.large_from m.body

pub ask_given : (asks : Result Ask Refusal) (body : List ℕ) (result : Result Request RequestFault) → GivesAsked asks body result → GivesAsk (ask_in asks) body result
ask_given asks body (Ok made) gives = ap ask_in gives
ask_given asks body (Err Memory) gives = tt
ask_given asks body (Err (Refused r)) gives = ap ask_in gives
