-- What the bytes of an answer tell.
use Rattle.std.proofs.Common.{◌≡◌, ℕ, List, Some, Result, Ok, Err, refl, ap, ◌∙◌}
use Rattle.std.specs.Prelude.{IfOk}
use Rattle.std.proofs.lemmas.Nat.{div-add-mod'}
use Rattle.osm_base.specs.Status.{IsStatus}
use Rattle.osm_base.specs.declared.memory.Memory.{Memory}
use Rattle.osm_change.specs.declared.answers.Answer.{Answer}
use Rattle.osm_change.specs.declared.answers.Answer.TheVariants as answers
use Rattle.osm_change.specs.declared.refusals.Refusal.{Refusal}
use Rattle.osm_change.specs.declared.refusals.Refusal.TheVariants as refusals
use Rattle.osm_json.specs.Answered.{status_of, body_of}
use Rattle.osm_json.specs.Refused.{refusal_status}
use Rattle.http_link.specs.declared.desk.Reply.{Reply}
use Rattle.desk_parts.specs.declared.faults.RequestFault.TheVariants as fault
use Rattle.desk_parts.specs.Replies.{reply_of as reply_by, refusal_bytes, TellsStatus}
use Rattle.api_desk.specs.Answers.{reply_of}
use Rattle.api_desk.specs.Feed.{says}
use Rattle.api_desk.specs.Gives.{TellsFault}
use Rattle.map_machine.specs.Machine.{bytes_of}

-- ---- statuses

refusal_listed : (r : Refusal) → IsStatus (refusal_status r)
unfolding refusal_status
refusal_listed refusals.BadHead = refl
refusal_listed refusals.HeadLong = refl
refusal_listed refusals.Coded = refl
refusal_listed refusals.BadLength = refl
refusal_listed refusals.BodyLong = refl
refusal_listed refusals.NoPath = refl
refusal_listed refusals.WrongMethod = refl
refusal_listed refusals.Xml = refl
refusal_listed refusals.NoUser = refl
refusal_listed refusals.BadNumber = refl
refusal_listed (refusals.BadParameter name) = refl
refusal_listed refusals.Role = refl
refusal_listed refusals.NotJson = refl
refusal_listed (refusals.Shape op) = refl
refusal_listed (refusals.NotNegative op) = refl
refusal_listed (refusals.DoublePlaceholder op) = refl
refusal_listed (refusals.UnknownPlaceholder op) = refl
refusal_listed (refusals.NoVersion op) = refl
refusal_listed (refusals.Local fault op) = refl
refusal_listed (refusals.OtherChangeset named op) = refl
refusal_listed (refusals.NoChangeset id) = refl
refusal_listed (refusals.NotOwner changeset owner) = refl
refusal_listed (refusals.Closed changeset closed_at) = refl
refusal_listed (refusals.Full applied changeset count limit) = refl
refusal_listed (refusals.BoxTooLarge area changeset limit) = refl
refusal_listed (refusals.NoElement id op k) = refl
refusal_listed (refusals.NoSuchVersion id k version) = refl
refusal_listed (refusals.WrongVersion found id op provided k) = refl
refusal_listed (refusals.Gone id op k version) = refl
refusal_listed (refusals.Missing id op k version) = refl
refusal_listed (refusals.Used id op k user_id user_kind user_version) = refl
refusal_listed (refusals.Redacted id redaction k version) = refl
refusal_listed (refusals.NoRedaction id) = refl
refusal_listed (refusals.RedactCurrent id k version) = refl
refusal_listed (refusals.MapArea area limit) = refl
refusal_listed (refusals.MapNodes limit nodes) = refl
refusal_listed (refusals.NoPiece last number) = refl

listed : (a : Answer) → IsStatus (status_of a)
listed (answers.Refused r) = refusal_listed r
listed (answers.Number n) = refl
listed answers.Nothing = refl
listed (answers.Diff rows) = refl
listed (answers.Elements bounds rows) = refl
listed (answers.Change rows) = refl
listed (answers.Changeset row) = refl
listed (answers.Changesets rows) = refl

-- ---- bytes

-- the bytes of an answer tell its status
pub tells_status : (a : Answer) (bytes : List ℕ) → bytes ≡ bytes_of a → TellsStatus bytes
tells_status a bytes is = record { status = status_of a; body = body_of a; listed = listed a; bytes_are = is }

-- and its reply
pub read_back : (a : Answer) (bytes : List ℕ) → bytes ≡ bytes_of a → reply_by (Some bytes) ≡ reply_of (Some (says a))
read_back a bytes is =
    let whole : reply_by (Some (bytes_of a)) ≡ reply_of (Some (says a)) = λ i. record { status = div-add-mod' (status_of a) 256 i; body = body_of a } in
    ap (λ (bs : List ℕ). reply_by (Some bs)) is ∙ whole

refusal_read : (r : Refusal) (reply : Reply) → reply ≡ reply_by (Some (refusal_bytes r)) → reply ≡ reply_of (Some (says (answers.Refused r)))
refusal_read r reply told = told ∙ read_back (answers.Refused r) (refusal_bytes r) refl

-- and those of a refusal, unless memory ran out
pub refusal_said : (r : Refusal) (result : Result Reply Memory) → IfOk result (λ reply. reply ≡ reply_by (Some (refusal_bytes r)))
    → IfOk result (λ reply. reply ≡ reply_of (Some (says (answers.Refused r))))
refusal_said r (Ok reply) told = refusal_read r reply told
refusal_said r (Err memory) told = tt

pub refusal_told : (r : Refusal) (result : Result Reply Memory) → IfOk result (λ reply. reply ≡ reply_by (Some (refusal_bytes r)))
    → TellsFault (fault.Refused r) result
refusal_told r (Ok reply) told = refusal_read r reply told
refusal_told r (Err memory) told = tt
