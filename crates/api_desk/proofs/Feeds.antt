-- What the feed shows has its moments, and what a session of a hub is told of the feed is a row of its front.
use Rattle.std.proofs.Common.{◌≡◌, ℕ, zero, suc, ◌-◌, ◌<◌, ◌≤◌, min, inl, List, [], ◌∷◌, length, take, drop, true, Option, Some, None, Result, Ok, Err, refl, sym, ap, ◌∙◌, subst, arith}
use Rattle.std.specs.Prelude.{slice_get, is_ok, fold, ◌==◌, IfOk, OnErr}
use Rattle.std.specs.Option.{option_map_or}
use Rattle.std.proofs.lemmas.Bool.{and_parts, eqb-true}
use Rattle.std.proofs.lemmas.List.{length-take-le}
use Rattle.std.proofs.Math.Seq.{take-length}
use mathlib.Core.List.{IsPrefix}
use Rattle.osm_base.specs.Stamp.{stamp_after}
use Rattle.osm_base.specs.declared.memory.Memory.{Memory}
use Rattle.osm_change.specs.Moments.{IsShownMoment}
use Rattle.changeset_core.specs.Timely.{IsTimelyMoment}
use Rattle.osm_change.specs.declared.refusals.Refusal.{Refusal}
use Rattle.osm_model.specs.Act.{Effect, judge, settle}
use Rattle.osm_model.specs.Answered.{Place}
use Rattle.osm_model.specs.Journal.{is_legal_from, takes, after, replay}
use Rattle.osm_model.specs.State.{empty}
use Rattle.osm_model.specs.Timely.{IsTimely}
use Rattle.osm_model.specs.declared.commands.Entry.{Entry}
use Rattle.osm_model.specs.declared.states.State.{State}
use Rattle.osm_model.proofs.Replayed.{leads-after, replay_timely}
use Rattle.osm_model.proofs.Told.{stamp_timely}
use Rattle.http_link.specs.declared.desk.Reply.{Reply}
use Rattle.http_link.specs.Desk.{counted_reply}
use Rattle.http_wire.specs.declared.message.Message.{Message}
use Rattle.user_table.specs.Users.{Users}
use Rattle.snapshot_hub.specs.Known.{Known, caught_up, seeing}
use Rattle.session_desk.specs.Steps.{place_at}
use Rattle.replication_feed.specs.Text.{state_text}
use Rattle.api_desk.specs.declared.feed.FeedCall.{FeedCall}
use Rattle.api_desk.specs.declared.feed.FeedCall.TheVariants as feed
use Rattle.api_desk.specs.Answered.{IsRow}
use Rattle.api_desk.specs.Answers.{reply_of}
use Rattle.api_desk.specs.Feed.{shows, last_stamp, piece_told, fed}
use Rattle.api_desk.specs.HubDesk.{GoesOn, ShowsFeed, MapReplies}
use Rattle.api_desk.specs.MachineRows.{place_of}
use Rattle.api_desk.specs.Request.{Ask, of_feed, request_of}
use Rattle.api_desk.proofs.Answered.{lacks}
use Rattle.api_desk.proofs.Fronts.{prefix_self, prefix_trans, prefix_length}

-- ---- moments

some_entry : (e f : Entry) → ◌≡◌ {A = Option Entry} (Some e) (Some f) → e ≡ f
some_entry e f same = cc

-- an entry that is taken was stamped by its map, which has no later moment than the last one of all
taken_timely : (P : State) (e : Entry) → IsTimely P → takes P e ≡ true → IsTimelyMoment e.stamp
taken_timely P e timely taken =
    let parts = and_parts (is_ok (judge P e.user e.stamp e.command)) (stamp_after P.last e.stamp == e.stamp) taken in
    subst IsTimelyMoment (eqb-true (stamp_after P.last e.stamp) e.stamp parts.1) (stamp_timely P.last e.stamp timely.last)

stamp_limited : (P : State) (es : List Entry) (n : ℕ) (e : Entry) → IsTimely P → is_legal_from P es ≡ true → slice_get es n ≡ Some e → IsTimelyMoment e.stamp
stamp_limited P [] n e timely legal found = absurd cc
stamp_limited P (x ∷ es) zero e timely legal found =
    subst (λ (y : Entry). IsTimelyMoment y.stamp) (some_entry x e found) (taken_timely P x timely (and_parts (takes P x) (is_legal_from (after P x) es) legal).0)
stamp_limited P (x ∷ es) (suc n) e timely legal found =
    stamp_limited (after P x) es n e ((leads-after P x).timely timely) (and_parts (takes P x) (is_legal_from (after P x) es) legal).1 found

-- the stamp of the entry at a place, or 0 where there is none
abbrev last_at : List Entry → ℕ → ℕ
last_at es n = option_map_or (λ e. e.stamp) (slice_get es n) 0

shown_at : (es : List Entry) (n : ℕ) → is_legal_from empty es ≡ true → IsShownMoment (last_at es n)
shown_at es n legal = go (slice_get es n) refl where
  go : (found : Option Entry) → slice_get es n ≡ found → IsShownMoment (option_map_or (λ (e : Entry). e.stamp) found 0)
  go None is = omega arith
  go (Some e) is = omega (arith, stamp_limited empty es n e (replay_timely []) legal is)

-- the stamp of a legal journal's last entry has a text
pub last_shown : (es : List Entry) → is_legal_from empty es ≡ true → IsShownMoment (last_stamp es)
last_shown es legal = shown_at es (length es - 1) legal

-- ---- the last stamp of the map

settled_last : (P : State) (t : ℕ) (judged : Result Effect Refusal) → is_ok judged ≡ true → (settle P t judged).0.last ≡ t
settled_last P t (Ok done) ok = refl
settled_last P t (Err r) ok = cc

taken_last : (P : State) (e : Entry) → takes P e ≡ true → (after P e).last ≡ e.stamp
taken_last P e taken =
    let parts = and_parts (is_ok (judge P e.user e.stamp e.command)) (stamp_after P.last e.stamp == e.stamp) taken in
    let same : stamp_after P.last e.stamp ≡ e.stamp = eqb-true (stamp_after P.last e.stamp) e.stamp parts.1 in
    let t : ℕ = stamp_after P.last e.stamp in
    settled_last P t (judge P e.user t e.command) (subst (λ (t : ℕ). is_ok (judge P e.user t e.command) ≡ true) (sym same) parts.0) ∙ same

last_more : (x y : Entry) (ys : List Entry) → last_stamp (x ∷ y ∷ ys) ≡ last_stamp (y ∷ ys)
last_more x y ys =
    let whole : length (x ∷ y ∷ ys) - 1 ≡ suc (length ys) = omega arith in
    let rest : length (y ∷ ys) - 1 ≡ length ys = omega arith in
    ap (last_at (x ∷ y ∷ ys)) whole ∙ sym (ap (last_at (y ∷ ys)) rest)

folded_last : (P : State) (e : Entry) (es : List Entry) → is_legal_from P (e ∷ es) ≡ true → (fold after P (e ∷ es)).last ≡ last_stamp (e ∷ es)
folded_last P e [] legal = taken_last P e (and_parts (takes P e) true legal).0
folded_last P e (f ∷ es) legal =
    folded_last (after P e) f es (and_parts (takes P e) (is_legal_from (after P e) (f ∷ es)) legal).1 ∙ sym (last_more e f es)

-- it is that of the last entry
pub replayed_last : (es : List Entry) → is_legal_from empty es ≡ true → (replay es).last ≡ last_stamp es
replayed_last [] legal = refl
replayed_last (e ∷ es) legal = folded_last empty e es legal

-- ---- the first of some entries

first_of : (F : List Entry) (k : ℕ) → slice_get (take 1 (drop k F)) 0 ≡ slice_get F k
first_of [] zero = refl
first_of [] (suc k) = refl
first_of (x ∷ F) zero = refl
first_of (x ∷ F) (suc k) = first_of F k

-- the first one from a piece's place on is the piece's entry
pub piece_found : (es part : List Entry) (number place : ℕ) (entry : Option Entry) → place ≡ number - 1 → part ≡ take 1 (drop place es) → entry ≡ slice_get part 0 → entry ≡ slice_get es (number - 1)
piece_found es part number place entry place_is part_is entry_is =
    entry_is ∙ ap (λ (xs : List Entry). slice_get xs 0) part_is ∙ first_of es place ∙ ap (slice_get es) place_is

-- ---- replies

-- the piece is one of all of a list
pub piece_alone : (es : List Entry) (number last : ℕ) (entry : Option Entry) (result : Result Reply Memory) → last ≡ length es → entry ≡ slice_get es (number - 1)
    → IfOk result (λ reply. reply ≡ reply_of (Some (piece_told last number entry)))
    → IfOk result (λ reply. reply ≡ reply_of (Some (fed es (feed.Piece number))))
piece_alone es number last entry result count found told = rw (← count, ← found) told

-- what `Hub::part` says
pub goes_on_of : (old new : Known Entry) → IsPrefix old.front new.front → new ≡ caught_up old new.front old.calls → GoesOn old new
goes_on_of old new longer is = record {
  begins = longer;
  number = ap (λ (k : Known Entry). k.number) is;
  calls = ap (λ (k : Known Entry). k.calls) is;
  debts = ap (λ (k : Known Entry). k.debts) is;
}

-- and `Session::read`
pub goes_seeing : (old new : Known Entry) → IsPrefix old.front new.front → new ≡ seeing old new.front → GoesOn old new
goes_seeing old new longer is = record {
  begins = longer;
  number = ap (λ (k : Known Entry). k.number) is;
  calls = ap (λ (k : Known Entry). k.calls) is;
  debts = ap (λ (k : Known Entry). k.debts) is;
}

-- the session stands where it stood
pub goes_same : (old new : Known Entry) → new ≡ old → GoesOn old new
goes_same old new same = subst (λ (n : Known Entry). GoesOn old n) (sym same) (record { begins = prefix_self old.front; number = refl; calls = refl; debts = refl })

-- the state is that of all of the front
pub state_shown : (old new : Known Entry) (n last : ℕ) (result : Result Reply Memory)
    → GoesOn old new → n ≡ length new.front → last ≡ last_stamp new.front
    → IfOk result (λ reply. reply ≡ reply_of (Some (shows (state_text n last))))
    → IfOk result (λ reply. ShowsFeed old feed.State reply new)
state_shown old new n last (Err memory) on is last_is told = told
state_shown old new n last (Ok reply) on is last_is told = record {
  goes_on = on;
  point = length new.front;
  later = prefix_length old.front new.front on.begins;
  within = omega arith;
  told = told
      ∙ ap (λ (k : ℕ). reply_of (Some (shows (state_text k last)))) is
      ∙ ap (λ (stamp : ℕ). reply_of (Some (shows (state_text (length new.front) stamp)))) last_is
      ∙ ap (λ (es : List Entry). reply_of (Some (fed es feed.State))) (sym (take-length new.front));
}

-- the piece is one of all of the front
pub piece_shown : (old new : Known Entry) (number place last : ℕ) (part : List Entry) (entry : Option Entry) (result : Result Reply Memory)
    → GoesOn old new → place ≡ number - 1 → part ≡ take 1 (drop place new.front) → entry ≡ slice_get part 0 → last ≡ length new.front
    → IfOk result (λ reply. reply ≡ reply_of (Some (piece_told last number entry)))
    → IfOk result (λ reply. ShowsFeed old (feed.Piece number) reply new)
piece_shown old new number place last part entry (Err memory) on place_is part_is entry_is last_is told = told
piece_shown old new number place last part entry (Ok reply) on place_is part_is entry_is last_is told =
    let found : entry ≡ slice_get new.front (number - 1) = piece_found new.front part number place entry place_is part_is entry_is in
    record {
      goes_on = on;
      point = length new.front;
      later = prefix_length old.front new.front on.begins;
      within = omega arith;
      told = told
          ∙ ap (λ (e : Option Entry). reply_of (Some (piece_told last number e))) found
          ∙ ap (λ (n : ℕ). reply_of (Some (piece_told n number (slice_get new.front (number - 1))))) last_is
          ∙ ap (λ (es : List Entry). reply_of (Some (fed es (feed.Piece number)))) (sym (take-length new.front));
    }

-- a feed call that was answered so is a row, wherever the session was last answered
pub feed_replied : (users : Users) (old new : Known Entry) (message : Message) (moment : ℕ) (call : FeedCall) (result : Result Reply Memory)
    → request_of users message ≡ of_feed call
    → IfOk result (λ reply. ShowsFeed old call reply new) → OnErr result (GoesOn old new)
    → MapReplies users old message moment (counted_reply result) new
feed_replied users old new message moment call (Ok reply) asks shown lacking = record {
  number = shown.goes_on.number;
  begins = shown.goes_on.begins;
  answers = λ point le. (
    shown.point,
    shown.within,
    record {
      answer = Some (fed (take shown.point new.front) call);
      row = subst
          (λ (q : Ask). IsRow new.front old.number (place_of (place_at old point)) q moment (Some (fed (take shown.point new.front) call)) (place_of (place_at new shown.point)))
          (sym asks)
          (inl (record { later = omega (arith, le, shown.later); told = refl; calls = shown.goes_on.calls; debts = shown.goes_on.debts }));
      text = shown.told;
    },
  );
}
feed_replied users old new message moment call (Err memory) asks shown on = record {
  number = on.number;
  begins = on.begins;
  answers = λ point le.
      let stays : place_of (place_at new point) ≡ place_of (place_at old point) = λ i. record { point = point; calls = on.calls i; debts = on.debts i } in (
        point,
        omega (arith, le, prefix_length old.front new.front on.begins),
        record {
          answer = None;
          row = subst (λ (p : Place). IsRow new.front old.number (place_of (place_at old point)) (request_of users message) moment None p) (sym stays)
              (lacks new.front old.number (place_of (place_at old point)) (request_of users message) moment);
          text = refl;
        },
      );
}

pub at_err : {A E : Type 0} (result : Result A E) (P : Type 0) → P → OnErr result P
at_err (Ok a) P holds = tt
at_err (Err e) P holds = holds
