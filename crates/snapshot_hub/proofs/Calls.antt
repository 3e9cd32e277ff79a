-- The calls of a session in a list, and in a longer one.
use Rattle.std.proofs.Common.{◌≡◌, ℕ, ◌+◌, ◌<◌, ◌≤◌, ◌==◌, Bool, true, false, cond, take, drop, List, [], ◌∷◌, ◌++◌, Option, Some, None, refl, ap, sym, ◌∙◌, arith}
use Rattle.std.proofs.lemmas.List.{take-append-drop, append-nil}
use Rattle.std.proofs.lemmas.List.Sums.{sum_by-append}
use Rattle.std.proofs.lemmas.Bool.{eq-eqb, ne_eqb}
use Rattle.std.proofs.Math.Nat.{lt_of_not-le}
use mathlib.Core.List.{IsPrefix}
use Rattle.machine_law.specs.declared.tags.Tag.{Tag}
use Rattle.hub_core.specs.Journal.{calls_of}
use Rattle.snapshot_hub.specs.Closings.{AreSeated}
use Rattle.snapshot_hub.specs.Commits.{count_of, IsEntered}

module _ {E : Type 0} (tag_of : E → Tag) where
  pub calls_append : (session : ℕ) (xs ys : List E) → calls_of tag_of session (xs ++ ys) ≡ calls_of tag_of session xs + calls_of tag_of session ys
  calls_append session xs ys = sum_by-append (λ x. cond ((tag_of x).session == session) 1 0) xs ys

  pub calls_one : (session : ℕ) (e : E) (b : Bool) → ((tag_of e).session == session) ≡ b → calls_of tag_of session (e ∷ []) ≡ cond b 1 0
  calls_one session e b is = let one : calls_of tag_of session (e ∷ []) ≡ 0 + cond b 1 0 = ap (λ (b : Bool). 0 + cond b 1 0) is in omega (arith, one)

  pub calls_push : (xs : List E) (e : E) (tag : Tag) → tag_of e ≡ tag → calls_of tag_of tag.session (xs ++ e ∷ []) ≡ calls_of tag_of tag.session xs + 1
  calls_push xs e tag is =
      let same : ((tag_of e).session == tag.session) ≡ true = eq-eqb (tag_of e).session tag.session (ap (λ (t : Tag). t.session) is) in
      omega (arith, calls_append tag.session xs (e ∷ []), calls_one tag.session e true same)

  -- a beginning has no more
  pub calls_prefix : (session : ℕ) (xs ys : List E) → IsPrefix xs ys → calls_of tag_of session xs ≤ calls_of tag_of session ys
  calls_prefix session xs ys p = omega (arith, calls_append session xs p.0, ap (calls_of tag_of session) p.1)

  pub calls_take : (session n : ℕ) (xs : List E) → calls_of tag_of session (take n xs) ≤ calls_of tag_of session xs
  calls_take session n xs = calls_prefix session (take n xs) xs (drop n xs, take-append-drop n xs)

  -- an entry that was put at the end is one call more
  pub calls_entered : (tag : Tag) (before after : List E) (place : Option ℕ) → IsEntered tag_of tag before after place
      → calls_of tag_of tag.session after ≡ calls_of tag_of tag.session before + count_of place
  calls_entered tag before after None h = let same = ap (calls_of tag_of tag.session) h in omega (arith, same)
  calls_entered tag before after (Some n) h = ap (calls_of tag_of tag.session) h.1 ∙ calls_push before h.0 tag h.2

  -- nothing is lost with an entry that is put at the end
  pub entered_grows : (tag : Tag) (before after : List E) (place : Option ℕ) → IsEntered tag_of tag before after place → IsPrefix before after
  entered_grows tag before after None h = ([], append-nil before ∙ sym h)
  entered_grows tag before after (Some n) h = (h.0 ∷ [], sym h.1)

  -- an entry of a session that has a seat
  pub seated_entered : (sessions : ℕ) (tag : Tag) (before after : List E) (place : Option ℕ) → tag.session < sessions → IsEntered tag_of tag before after place
      → AreSeated tag_of sessions before → AreSeated tag_of sessions after
  seated_entered sessions tag before after None lt h seated session le = ap (calls_of tag_of session) h ∙ seated session le
  seated_entered sessions tag before after (Some n) lt h seated session le =
      let own : (tag_of h.0).session ≡ tag.session = ap (λ (t : Tag). t.session) h.2 in
      let other : ((tag_of h.0).session == session) ≡ false = ne_eqb (tag_of h.0).session session (λ same. omega (arith, same, own, lt, le)) in
      omega (arith, ap (calls_of tag_of session) h.1, calls_append session before (h.0 ∷ []), calls_one session h.0 false other, seated session le)

  -- each entry of a list is of a session that has a seat
  pub seated_next : (sessions : ℕ) (xs : List E) (e : E) (ys : List E) → AreSeated tag_of sessions (xs ++ e ∷ ys) → (tag_of e).session < sessions
  seated_next sessions xs e ys seated =
      let session = (tag_of e).session in
      let own : (session == session) ≡ true = eq-eqb session session refl in
      let parts = calls_append session xs (e ∷ ys) in
      let rest = calls_append session (e ∷ []) ys in
      let one = calls_one session e true own in
      lt_of_not-le (λ le. omega (arith, seated session le, parts, rest, one))
