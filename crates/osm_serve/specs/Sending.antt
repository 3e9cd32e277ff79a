-- What sending the requests of a load comes to.
use Rattle.std.specs.Prelude.{◌≡◌, ℕ, ◌==◌, Bool, true, false, not, List, [], ◌∷◌, Option, Some, None}
use Rattle.osm_model.specs.declared.commands.Entry.{Entry}
use Rattle.http_wire.specs.declared.message.Message.{Message}
use Rattle.http_wire.specs.Message.{BeginsWith}
use Rattle.http_link.specs.declared.desk.Reply.{Reply}
use Rattle.user_table.specs.Users.{Users}
use Rattle.api_desk.specs.Answers.{AnswersAlone}
use Rattle.workload.specs.declared.sent.Sent.{Sent}
use Rattle.http_wire.specs.Messages.{HasNoMessage}

-- the moment of every request: 2023-11-14T22:13:20Z
abbrev pub moment_of_load : ℕ
moment_of_load = 1700000000

-- ---- one request

-- A message of a session was answered as the rules of the map say, from a journal to the next.
pub record IsAnswered (users : Users) (session : ℕ) (message : Message) (old new : List Entry) (status : ℕ) : Type 0 where
  pub reply : Reply
  pub answers : AnswersAlone users session old new message moment_of_load reply
  pub status_is : status ≡ reply.status

-- A request was sent: the message that its bytes begin with was answered.
pub record IsReplied (users : Users) (sent : Sent) (old new : List Entry) (status : ℕ) : Type 0 where
  pub message : Message
  pub rest : List ℕ
  pub begins : BeginsWith sent.bytes message rest
  pub answered : IsAnswered users sent.session message old new status

-- Bytes were sent that are no message, and the journal stays.
pub record IsUnread (sent : Sent) (old new : List Entry) : Type 0 where
  pub ends : HasNoMessage sent.bytes
  pub stays : new ≡ old

-- a request with the status of its reply, from a journal to the next: bytes that are no message have none
abbrev pub IsSent : Users → Sent → List Entry → List Entry → Option ℕ → Type 0
IsSent users sent old new (Some status) = IsReplied users sent old new status
IsSent users sent old new None = IsUnread sent old new

-- ---- a load

-- Requests were sent one after another, from a journal to another, with these statuses.
abbrev pub AreSent : Users → List Sent → List Entry → List Entry → List (Option ℕ) → Type 0
AreSent users [] old new [] = new ≡ old
AreSent users [] old new (status ∷ later) = ⊥
AreSent users (sent ∷ more) old new [] = ⊥
AreSent users (sent ∷ more) old new (status ∷ later) =
    (mid : List Entry) × IsSent users sent old mid status × AreSent users more mid new later

-- all statuses but 200 refuse
abbrev pub refuses : Option ℕ → Bool
refuses (Some status) = not (status == 200)
refuses None = true

-- the status that tells of want of memory
abbrev pub lacks_memory : Option ℕ → Bool
lacks_memory (Some status) = status == 503
lacks_memory None = false
