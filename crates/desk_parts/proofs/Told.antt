-- What the bytes of an answer tell.
use Rattle.std.proofs.Common.{◌≡◌, ℕ, ◌+◌, ◌*◌, ◌≤◌, List, length, drop, suc, Some, sym, ap, ◌∙◌, subst, arith}
use Rattle.std.specs.Prelude.{◌/◌, ◌%◌, slice_index}
use Rattle.std.proofs.lemmas.Nat.{div-add-mod'}
use Rattle.osm_base.specs.Status.{IsStatus}
use Rattle.osm_change.specs.declared.answers.Answer.TheVariants as answers
use Rattle.osm_change.specs.declared.refusals.Refusal.{Refusal}
use Rattle.osm_json.specs.Answered.{status_of, body_of}
use Rattle.http_link.specs.declared.desk.Reply.{Reply}
use Rattle.desk_parts.specs.Replies.{refusal_bytes, reply_of, TellsStatus}

-- they are two at least
pub bytes_long : (bytes : List ℕ) → TellsStatus bytes → 2 ≤ length bytes
bytes_long bytes tells = let long : length bytes ≡ length tells.body + 2 = ap length tells.bytes_are ∙ two_more _ in omega (arith, long) where
  two_more : (n : ℕ) → suc (suc n) ≡ n + 2
  two_more n = omega arith

-- the status that they tell
status_told : (bytes : List ℕ) → (tells : TellsStatus bytes) → slice_index bytes 0 * 256 + slice_index bytes 1 ≡ tells.status
status_told bytes tells = ap (λ (bs : List ℕ). slice_index bs 0 * 256 + slice_index bs 1) tells.bytes_are ∙ div-add-mod' tells.status 256

pub told_listed : (bytes : List ℕ) (reply : Reply) → TellsStatus bytes → reply.status ≡ slice_index bytes 0 * 256 + slice_index bytes 1 → IsStatus reply.status
told_listed bytes reply tells is = subst IsStatus (sym (is ∙ status_told bytes tells)) tells.listed

-- the reply whose status and body are read of bytes
pub reply_read : (bytes : List ℕ) (reply : Reply) → reply.status ≡ slice_index bytes 0 * 256 + slice_index bytes 1 → reply.body ≡ drop 2 bytes → reply ≡ reply_of (Some bytes)
reply_read bytes reply status body = λ i. record { status = status i; body = body i }

-- the reply with the status and the body of a refusal
pub refusal_told : (r : Refusal) (reply : Reply) → reply.status ≡ status_of (answers.Refused r) → reply.body ≡ body_of (answers.Refused r) → reply ≡ reply_of (Some (refusal_bytes r))
refusal_told r reply status body =
    let again : status_of (answers.Refused r) ≡ (status_of (answers.Refused r) / 256) * 256 + status_of (answers.Refused r) % 256 = sym (div-add-mod' (status_of (answers.Refused r)) 256) in
    let is : reply.status ≡ (status_of (answers.Refused r) / 256) * 256 + status_of (answers.Refused r) % 256 = status ∙ again in
    λ i. record { status = is i; body = body i }
