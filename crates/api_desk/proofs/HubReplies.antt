-- What the map's machine answers to a message's request is what the map answers to the message.
use Rattle.std.proofs.Common.{◌≡◌, ℕ, List, refl, sym, ◌∙◌, subst, Option, Some, None, Result, Ok, Err, arith}
use Rattle.std.specs.Prelude.{option_map, IfOk}
use Rattle.osm_base.specs.declared.memory.Memory.{Memory}
use Rattle.osm_change.specs.declared.answers.Answer.{Answer}
use Rattle.osm_model.specs.Answered.{Request, Place}
use Rattle.osm_model.specs.declared.commands.Entry.{Entry}
use Rattle.http_wire.specs.declared.message.Message.{Message}
use Rattle.http_link.specs.declared.desk.Reply.{Reply}
use Rattle.user_table.specs.Users.{Users}
use Rattle.snapshot_hub.specs.Known.{Known}
use Rattle.session_desk.specs.Steps.{place_at, told, Answers as AnswersBy}
use Rattle.desk_parts.specs.Replies.{reply_of as reply_by, TellsStatus}
use Rattle.api_desk.specs.Answered.{IsRow}
use Rattle.api_desk.specs.Answers.{reply_of, Answers}
use Rattle.api_desk.specs.Feed.{says}
use Rattle.map_machine.specs.Machine.{map_rules, bytes_of}
use Rattle.api_desk.specs.MachineRows.{asked_of, bytes_told, place_of, TellsBytes}
use Rattle.api_desk.specs.Request.{Ask, of_map, request_of}
use Rattle.api_desk.specs.HubDesk.{MapReplies}
use Rattle.api_desk.proofs.Fronts.{prefix_self}
use Rattle.api_desk.proofs.MachineRows.{row_of}
use Rattle.api_desk.proofs.ReplyBytes.{read_back, tells_status}

pub replied : (users : Users) (old new : Known Entry) (message : Message) (request : Request) (moment : ℕ) (bytes : Option (List ℕ)) (reply : Reply)
    → request_of users message ≡ of_map request → AnswersBy map_rules old (asked_of request) moment bytes new → TellsBytes bytes reply
    → MapReplies users old message moment reply new
replied users old new message request moment bytes reply asks answers tells = record {
  number = answers.number;
  begins = answers.begins;
  answers = λ point le.
      let row = answers.row point le in
      let has = row_of new.front old.number (place_at old point) (place_at new row.0) request moment bytes row.2 in (
        row.0,
        row.1,
        record {
          answer = option_map says has.answer;
          row = subst
              (λ (q : Ask). IsRow new.front old.number (place_of (place_at old point)) q moment (option_map says has.answer) (place_of (place_at new row.0)))
              (sym asks)
              (record { answer = has.answer; told = refl; row = has.row });
          text = tells has.answer has.told;
        },
      );
}

-- who stays where it stands, wherever that is
pub stays_replied : (users : Users) (it : Known Entry) (message : Message) (moment : ℕ) (reply : Reply)
    → ((place : Place) → Answers users it.number it.front place message moment reply place) → MapReplies users it message moment reply it
stays_replied users it message moment reply stays = record {
  number = refl;
  begins = prefix_self it.front;
  answers = λ point le. (point, le, stays (place_of (place_at it point)));
}

-- ---- the reply that bytes tell

some_answer : (bytes : List ℕ) (told : Option Answer) → ◌≡◌ {A = Option (List ℕ)} (Some bytes) (bytes_told told) → (answer : Answer) × (bytes ≡ bytes_of answer)
some_answer bytes None is = absurd cc
some_answer bytes (Some answer) is = (answer, cc)

-- what was told as bytes is the bytes of an answer
answer_in : (old new : Known Entry) (request : Request) (moment : ℕ) (bytes : List ℕ)
    → AnswersBy map_rules old (asked_of request) moment (Some bytes) new → (answer : Answer) × (bytes ≡ bytes_of answer)
answer_in old new request moment bytes answers =
    let row = answers.row 0 (omega arith) in
    let has = row_of new.front old.number (place_at old 0) (place_at new row.0) request moment (Some bytes) row.2 in
    some_answer bytes has.answer has.told

some_same : (xs ys : List ℕ) → ◌≡◌ {A = Option (List ℕ)} (Some xs) (Some ys) → xs ≡ ys
some_same xs ys same = cc

-- the reply that the bytes of an answer are read as
pub tells_read : (bytes : List ℕ) (reply : Reply) → reply ≡ reply_by (Some bytes) → TellsBytes (Some bytes) reply
tells_read bytes reply told None is = absurd cc
tells_read bytes reply told (Some answer) is = told ∙ read_back answer bytes (some_same bytes (bytes_of answer) is)

-- want of memory
pub tells_nothing : TellsBytes None (reply_of None)
tells_nothing None is = refl
tells_nothing (Some answer) is = absurd cc

-- what is answered tells a status
pub all_tell : (old new : Known Entry) (request : Request) (moment : ℕ) (answer : Result (List ℕ) Memory)
    → AnswersBy map_rules old (asked_of request) moment (told answer) new → IfOk answer TellsStatus
all_tell old new request moment (Ok bytes) answers = let found = answer_in old new request moment bytes answers in tells_status found.0 bytes found.1
all_tell old new request moment (Err memory) answers = tt
