-- The bytes of an answer, and the reply that they tell.
use Rattle.std.specs.Prelude.{◌≡◌, ℕ, ◌+◌, ◌*◌, ◌/◌, ◌%◌, List, ◌∷◌, drop, slice_index, Option, Some, None}
use Rattle.osm_base.specs.Status.{IsStatus}
use Rattle.osm_change.specs.declared.answers.Answer.TheVariants as answers
use Rattle.osm_change.specs.declared.refusals.Refusal.{Refusal}
use Rattle.osm_json.specs.Answered.{status_of, body_of}
use Rattle.http_link.specs.declared.desk.Reply.{Reply}
use Rattle.http_link.specs.Desk.{memory_body}

-- the two bytes of the status, high byte first, and then the body
abbrev pub answer_bytes : ℕ → List ℕ → List ℕ
answer_bytes status body = (status / 256) ∷ (status % 256) ∷ body

abbrev pub refusal_bytes : Refusal → List ℕ
refusal_bytes r = answer_bytes (status_of (answers.Refused r)) (body_of (answers.Refused r))

-- the reply that bytes tell; `None` is want of memory
abbrev pub reply_of : Option (List ℕ) → Reply
reply_of None = record { status = 503; body = memory_body }
reply_of (Some bytes) = record { status = slice_index bytes 0 * 256 + slice_index bytes 1; body = drop 2 bytes }

-- they are a status that a reply may have, and a body
pub record TellsStatus (bytes : List ℕ) : Type 0 where
  pub status : ℕ
  pub body : List ℕ
  pub listed : IsStatus status
  pub bytes_are : bytes ≡ answer_bytes status body
