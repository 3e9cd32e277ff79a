-- The run of a load on one thread: each request is done where it stands.
use Rattle.std.specs.Prelude.{◌≡◌, ℕ, ◌⊎◌, List, [], ◌∷◌}
use Rattle.osm_model.specs.declared.commands.Entry.{Entry}
use Rattle.osm_model.specs.Answered.{refused, does, reads}
use Rattle.osm_model.specs.Journal.{journal_after}
use Rattle.http_wire.specs.declared.message.Message.{Message}
use Rattle.http_wire.specs.Message.{BeginsWith}
use Rattle.user_table.specs.Users.{Users}
use Rattle.api_desk.specs.Request.{Ask, of_map, of_feed, request_of}
use Rattle.workload.specs.declared.sent.Sent.{Sent}
use Rattle.osm_serve.specs.Sending.{IsUnread, moment_of_load}

-- the journal after a request of a session: a command that the map accepts is appended
abbrev pub journal_with : List Entry → ℕ → Ask → List Entry
journal_with journal session (of_map (refused r)) = journal
journal_with journal session (of_map (does user c)) = journal_after journal session user moment_of_load c
journal_with journal session (of_map (reads q)) = journal
journal_with journal session (of_feed call) = journal

-- The message that a request begins with was done.
pub record IsDone (users : Users) (sent : Sent) (old new : List Entry) : Type 0 where
  pub message : Message
  pub rest : List ℕ
  pub begins : BeginsWith sent.bytes message rest
  pub done : new ≡ journal_with old sent.session (request_of users message)

-- Requests were done one after another, from a journal to another. Bytes that are no message do nothing.
abbrev pub AreDone : Users → List Sent → List Entry → List Entry → Type 0
AreDone users [] old new = new ≡ old
AreDone users (sent ∷ more) old new =
    (mid : List Entry) × (IsDone users sent old mid ⊎ IsUnread sent old mid) × AreDone users more mid new
