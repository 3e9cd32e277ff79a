-- What a message is answered by a machine.
use Rattle.std.specs.Prelude.{◌≡◌, ℕ, List, Option}
use Rattle.http_wire.specs.declared.message.Message.{Message}
use Rattle.http_link.specs.declared.desk.Reply.{Reply}
use Rattle.machine_law.specs.Rules.{Rules}
use Rattle.session_desk.specs.Rows.{Request, Place, IsRow}
use Rattle.user_table.specs.Users.{Users}
use Rattle.desk_parts.specs.Replies.{reply_of}

-- over the rules of a machine, and what a message asks of it
module _ {S C Q P E K : Type 0} (rules : Rules S C Q P E K) (request_of : Users → Message → Request C Q) where
  -- The request of the message has a row of "answered", and the reply tells the bytes of that row.
  pub record AnswersMessage (users : Users) (session : ℕ) (F : List E) (before : Place) (message : Message) (moment : ℕ) (reply : Reply) (after : Place) : Type 0 where
    pub bytes : Option (List ℕ)
    pub row : IsRow rules F session before (request_of users message) moment bytes after
    pub told : reply ≡ reply_of bytes
