-- A journal whose requests were answered without want of memory is that of the run on one thread.
use Rattle.std.proofs.Common.{◌≡◌, ℕ, ◌+◌, Bool, true, false, List, [], ◌∷◌, ◌++◌, length, take, Option, Some, None, Result, Ok, Err, ◌⊎◌, inl, inr, refl, sym, ap, ◌∙◌, arith, length-append}
use Rattle.std.specs.Prelude.{count_by, cond, slice_get, option_map, unwrap_or, ◌==◌}
use Rattle.std.proofs.Math.Seq.{take-append_seam, take-length}
use Rattle.std.proofs.lemmas.List.{append-nil, nil_from_length}
use Rattle.std.proofs.lemmas.List.Sums.{sum_by-append}
use Rattle.osm_base.specs.Stamp.{stamp_after}
use Rattle.osm_change.specs.declared.answers.Answer.{Answer}
use Rattle.osm_change.specs.declared.refusals.Refusal.{Refusal}
use Rattle.osm_model.specs.declared.commands.Entry.{Entry}
use Rattle.osm_model.specs.Act.{Effect, judge}
use Rattle.osm_model.specs.Answered.{Request, refused, does, reads, Place, all_of, map_at, stamp_on}
use Rattle.osm_model.specs.Answered.{IsRow as IsMapsRow}
use Rattle.osm_model.specs.Journal.{replay, calls_of, next_entry, appended}
use Rattle.http_link.specs.declared.desk.Reply.{Reply}
use Rattle.user_table.specs.Users.{Users}
use Rattle.api_desk.specs.Answered.{IsRow}
use Rattle.api_desk.specs.Answers.{reply_of}
use Rattle.api_desk.specs.Feed.{Told, says}
use Rattle.api_desk.specs.Request.{Ask, of_map, of_feed, request_of}
use Rattle.workload.specs.declared.sent.Sent.{Sent}
use Rattle.osm_serve.specs.Sending.{IsUnread, IsSent, AreSent, lacks_memory, moment_of_load}
use Rattle.osm_serve.specs.OneThread.{IsDone, AreDone, journal_with}

-- ---- the journal after a row

unmoved : (old new more : List Entry) → new ≡ old ++ more → length more ≡ 0 → new ≡ old
unmoved old new more grown none = grown ∙ ap (λ l. old ++ l) (nil_from_length more none) ∙ append-nil old

same_point : (old new more : List Entry) → new ≡ old ++ more → length new ≡ length old → new ≡ old
same_point old new more grown same =
    let sum = length-append old more in
    let size = ap length grown in
    unmoved old new more grown (omega (arith, sum, size, same))

at_end : (old : List Entry) (x : Entry) → slice_get (old ++ x ∷ []) (length old) ≡ Some x
at_end [] x = refl
at_end (y ∷ old) x = at_end old x

last_is : (old : List Entry) (x e : Entry) → slice_get (old ++ x ∷ []) (length old) ≡ Some e → x ≡ e
last_is old x e is = ap (λ (o : Option Entry). unwrap_or o x) (sym (at_end old x) ∙ is)

-- the one entry that is there besides
one_entry : (old new more : List Entry) (e : Entry) → new ≡ old ++ more → length more ≡ 1 → slice_get new (length old) ≡ Some e
    → new ≡ old ++ e ∷ []
one_entry old new [] e grown one at = absurd (omega (arith, one))
one_entry old new (x ∷ []) e grown one at =
    let is = last_is old x e (sym (ap (λ l. slice_get l (length old)) grown) ∙ at) in
    grown ∙ ap (λ y. old ++ y ∷ []) is
one_entry old new (x ∷ y ∷ more) e grown one at = absurd (omega (arith, one))

appended_ok : (entries : List Entry) (e : Entry) (judged : Result Effect Refusal) (done : Effect) → judged ≡ Ok done → appended entries e judged ≡ entries ++ e ∷ []
appended_ok entries e judged done is = ap (appended entries e) is

appended_err : (entries : List Entry) (e : Entry) (judged : Result Effect Refusal) (r : Refusal) → judged ≡ Err r → appended entries e judged ≡ entries
appended_err entries e judged r is = ap (appended entries e) is

map_done : (session : ℕ) (old new more : List Entry) (request : Request) (answer : Option Answer)
    → IsMapsRow new session (all_of session old) request moment_of_load answer (all_of session new)
    → new ≡ old ++ more → calls_of session new ≡ calls_of session old + length more → (answer ≡ None → ⊥)
    → new ≡ journal_with old session (of_map request)
map_done session old new more (refused r) answer (inl row) grown own told = same_point old new more grown (ap (λ (p : Place). p.point) row.stays)
map_done session old new more (refused r) answer (inr row) grown own told = absurd (told row.told)
map_done session old new more (reads q) answer (inl row) grown own told =
    let calls = row.calls in unmoved old new more grown (omega (arith, own, calls))
map_done session old new more (reads q) answer (inr row) grown own told = absurd (told row.told)
map_done session old new more (does user c) answer (inl row) grown own told =
    let calls = row.calls in
    let stays : new ≡ old = unmoved old new more grown (omega (arith, own, calls)) in
    let whole : map_at new (length new) ≡ replay old = ap replay (take-length new ∙ stays) in
    let judged : judge (replay old) user (stamp_after (replay old).last moment_of_load) c ≡ Err row.refusal =
    sym (ap (λ P. judge P user (stamp_on P moment_of_load) c) whole) ∙ row.judged in
    stays ∙ sym (appended_err old (next_entry old session user moment_of_load c) _ row.refusal judged)
map_done session old new more (does user c) answer (inr (inl row)) grown own told =
    let point = ap (λ (p : Place). p.point) row.comes_to in
    let calls = ap (λ (p : Place). p.calls) row.comes_to in
    let sum = length-append old more in
    let size = ap length grown in
    let one : length more ≡ 1 = omega (arith, own, calls) in
    let at : row.at ≡ length old = omega (arith, point, sum, size, one) in
    let whole : map_at new row.at ≡ replay old = ap replay (ap (λ n. take n new) at ∙ ap (take (length old)) grown ∙ take-append_seam old more) in
    let judged : judge (replay old) user (stamp_after (replay old).last moment_of_load) c ≡ Ok row.done =
    sym (ap (λ P. judge P user (stamp_on P moment_of_load) c) whole) ∙ row.judged in
    let entry : slice_get new (length old) ≡ Some (next_entry old session user moment_of_load c) =
    ap (slice_get new) (sym at) ∙ row.entry
    ∙ ap (λ P. Some (record { session = session; call = calls_of session old + 1; user = user; stamp = stamp_on P moment_of_load; command = c })) whole in
    one_entry old new more _ grown one entry ∙ sym (appended_ok old (next_entry old session user moment_of_load c) _ row.done judged)
map_done session old new more (does user c) answer (inr (inr (inl row))) grown own told = absurd (told row.told)
map_done session old new more (does user c) answer (inr (inr (inr row))) grown own told = absurd (told row.told)

-- what tells no answer is want of memory
untold : (answer : Option Answer) (told : Option Told) → told ≡ option_map says answer → (told ≡ None → ⊥) → answer ≡ None → ⊥
untold answer told is some none = some (is ∙ ap (option_map says) none)

pub row_done : (session : ℕ) (old new more : List Entry) (request : Ask) (told : Option Told)
    → IsRow new session (all_of session old) request moment_of_load told (all_of session new)
    → new ≡ old ++ more → calls_of session new ≡ calls_of session old + length more → (told ≡ None → ⊥)
    → new ≡ journal_with old session request
row_done session old new more (of_map request) told row grown own some =
    map_done session old new more request row.answer row.row grown own (untold row.answer told row.told some)
row_done session old new more (of_feed call) told (inl row) grown own some =
    let calls = row.calls in unmoved old new more grown (omega (arith, own, calls))
row_done session old new more (of_feed call) told (inr row) grown own some = absurd (some row.told)

-- ---- a request, and a load

lacking_of : (answer : Option Told) (reply : Reply) → reply ≡ reply_of answer → answer ≡ None → reply.status ≡ 503
lacking_of answer reply text none = ap (λ (r : Reply). r.status) (text ∙ ap reply_of none)

tested : (status : ℕ) → status ≡ 503 → (status == 503) ≡ true
tested status is = rw is refl

one_done : (users : Users) (sent : Sent) (old new : List Entry) (status : Option ℕ) → IsSent users sent old new status → lacks_memory status ≡ false
    → IsDone users sent old new ⊎ IsUnread sent old new
one_done users sent old new (Some status) is fine =
    let told = is.answered in
    let alone = told.answers in
    let answers = alone.answers in
    let memory : answers.answer ≡ None → ⊥ = λ none.
    let lacks : (status == 503) ≡ true = tested status (told.status_is ∙ lacking_of answers.answer told.reply answers.text none) in
    let clash : true ≡ false = sym lacks ∙ fine in absurd (cc) in
    inl (record {
      message = is.message;
      rest = is.rest;
      begins = is.begins;
      done = row_done sent.session old new alone.more (request_of users is.message) answers.answer answers.row alone.grown alone.own memory;
    })
one_done users sent old new None is fine = inr is

split : (p : Option ℕ → Bool) (status : Option ℕ) (later : List (Option ℕ)) → count_by p (status ∷ later) ≡ 0 → (p status ≡ false) × (count_by p later ≡ 0)
split p status later none =
    let sum : count_by p (status ∷ later) ≡ (0 + cond (p status) 1 0) + count_by p later = sum_by-append (λ (x : Option ℕ). cond (p x) 1 0) (status ∷ []) later in
    (go (p status) (omega (arith, sum, none)), omega (arith, sum, none)) where
      go : (holds : Bool) → 0 + cond holds 1 0 ≡ 0 → holds ≡ false
      go true is = absurd (omega (arith, is))
      go false is = refl

pub all_done : (users : Users) (load : List Sent) (old new : List Entry) (statuses : List (Option ℕ))
    → AreSent users load old new statuses → count_by lacks_memory statuses ≡ 0 → AreDone users load old new
all_done users [] old new [] sent none = sent
all_done users [] old new (status ∷ later) sent none = absurd sent
all_done users (one ∷ more) old new [] sent none = absurd sent
all_done users (one ∷ more) old new (status ∷ later) (mid, is, rest) none =
    let parts = split lacks_memory status later none in
    (mid, one_done users one old mid status is parts.0, all_done users more mid new later rest parts.1)
