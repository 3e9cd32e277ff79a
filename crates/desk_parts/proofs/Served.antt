-- What a message is answered by a machine.
use Rattle.std.proofs.Common.{◌≡◌, ℕ, List, refl, sym, subst, Option, Some, None, Result, Ok, Err}
use Rattle.std.specs.Prelude.{IfOk}
use Rattle.osm_base.specs.declared.memory.Memory.{Memory}
use Rattle.http_wire.specs.declared.message.Message.{Message}
use Rattle.http_link.specs.declared.desk.Reply.{Reply}
use Rattle.http_link.specs.Desk.{counted_reply}
use Rattle.machine_law.specs.Rules.{Rules}
use Rattle.session_desk.specs.Rows.{Request}
use Rattle.session_desk.specs.Rows.Request.{Refused}
use Rattle.session_desk.specs.Steps.{Answers}
use Rattle.snapshot_hub.specs.Known.{Known}
use Rattle.user_table.specs.Users.{Users}
use Rattle.session_desk.specs.Answered.{Replies}
use Rattle.session_desk.proofs.Rows.{unanswered, refusal_answers}
use Rattle.desk_parts.specs.Answered.{AnswersMessage}
use Rattle.desk_parts.specs.Replies.{reply_of}

module _ {S C Q P E K : Type 0} (rules : Rules S C Q P E K) (request_of : Users → Message → Request C Q) where
  pub request_replied : (users : Users) (old new : Known E) (message : Message) (request : Request C Q) (moment : ℕ) (bytes : Option (List ℕ)) (reply : Reply)
      → request_of users message ≡ request → Answers rules old request moment bytes new → reply ≡ reply_of bytes
      → Replies (AnswersMessage rules request_of) users old message moment reply new
  request_replied users old new message request moment bytes reply asks answers told =
      let same : Answers rules old (request_of users message) moment bytes new = subst (λ (r : Request C Q). Answers rules old r moment bytes new) (sym asks) answers in record {
        number = same.number;
        begins = same.begins;
        answers = λ point le. let next = same.row point le in (next.0, next.1, record { bytes = bytes; row = next.2; told = told });
      }

  pub nothing_replied : (users : Users) (it : Known E) (message : Message) (moment : ℕ) → Replies (AnswersMessage rules request_of) users it message moment (reply_of None) it
  nothing_replied users it message moment =
      request_replied users it it message (request_of users message) moment None (reply_of None) refl (unanswered rules it it (request_of users message) moment refl) refl

  pub refusal_replied : (users : Users) (it : Known E) (message : Message) (moment : ℕ) (answer : List ℕ) (result : Result Reply Memory)
      → request_of users message ≡ Refused answer → IfOk result (λ reply. reply ≡ reply_of (Some answer))
      → Replies (AnswersMessage rules request_of) users it message moment (counted_reply result) it
  refusal_replied users it message moment answer (Ok reply) asks told =
      request_replied users it it message (Refused answer) moment (Some answer) reply asks (refusal_answers rules it answer moment) told
  refusal_replied users it message moment answer (Err memory) asks told = nothing_replied users it message moment
