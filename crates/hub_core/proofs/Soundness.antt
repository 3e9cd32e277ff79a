-- Each event keeps the core sound, and makes no length fall.
use Rattle.std.proofs.Common.{◌≡◌, ◌≢◌, ℕ, ◌+◌, ◌≤◌, ◌==◌, Bool, true, false, length, take, fold, sym, subst, List, [], ◌∷◌, ◌++◌, Option, Some, None, ap, refl, ◌∙◌, arith, length-append}
use Rattle.std.specs.Prelude.{IfSome, nat_lt, nat_le, if◌then◌else◌}
use Rattle.std.proofs.lemmas.List.{take-append-le}
use Rattle.std.proofs.Math.Seq.{take-length}
use Rattle.std.proofs.lemmas.Bool.{eqb-true, eqb-false, leb-true}
use mathlib.Core.List.{IsPrefix}
use Rattle.machine_law.specs.declared.tags.Tag.{Tag}
use Rattle.machine_law.specs.Rules.{Rules, replay}
use Rattle.hub_core.specs.declared.events.Event.{Event}
use Rattle.hub_core.specs.declared.events.Event.TheVariants.{Plan, Commit, Publish, Ask, Freshen}
use Rattle.hub_core.specs.Journal.{calls_of, extended}
use Rattle.hub_core.specs.Core.{CoreState, SessionState, Intent, core_start, core_step, core_after, put, can_read, plan_of, saw, planned_by, settled_by, all_published, asked_by, freshened_by, acted_by, committed_by, tagged}
use Rattle.hub_core.specs.Sound.{IsBased, IsSound, Grows}
use Rattle.hub_core.proofs.Prefixes.{prefix_self, prefix_length}
use Rattle.hub_core.proofs.Calls.{calls_other, calls_between}
use Rattle.hub_core.proofs.Numbers.{both_true}
use Rattle.hub_core.proofs.Legal.{journal_push}

-- what holds of the new state and of each other holds of all
put_all : {C : Type 0} (P : ℕ → SessionState C → Type 0) (sessions : ℕ → SessionState C) (session : ℕ) (state : SessionState C)
    → P session state → ((k : ℕ) → k ≢ session → P k (sessions k)) → (k : ℕ) → P k (put sessions session state k)
put_all {C} P sessions session state here others k = go (k == session) refl where
  go : (b : Bool) → (k == session) ≡ b → P k (if b then state else sessions k)
  go true is = subst (λ (j : ℕ). P j state) (sym (eqb-true k session is)) here
  go false is = others k (eqb-false k session is)

based_more : {C : Type 0} (plan : Option (Intent C)) (less more : ℕ) → less ≤ more → IsBased less plan → IsBased more plan
based_more None less more le h = tt
based_more (Some intent) less more le h = omega arith

-- the session may read, so it saw no more than what is published
reads_more : {C E : Type 0} (core : CoreState C E) (session : ℕ) → can_read core session ≡ true → (core.sessions session).seen ≤ core.published
reads_more core session h = let p = both_true (nat_lt session core.count) (nat_le (core.sessions session).seen core.published) h in leb-true (core.sessions session).seen core.published p.1

module _ {S C Q P E K : Type 0} (rules : Rules S C Q P E K) where
  -- the laws of a machine that no call of it tells
  abbrev pub IsTaken : Type 0
  IsTaken = (s : S) (tag : Tag) (moment : ℕ) (command : C) → IfSome (rules.act s tag moment command).entry (λ e. (rules.takes s e ≡ true) × (rules.tag_of e ≡ tag))

  abbrev pub StaysConsistent : Type 0
  StaysConsistent = (s : S) (e : E) → rules.takes s e ≡ true → rules.consistent s → rules.consistent (rules.after s e)

  abbrev Sound : CoreState C E → Type 0
  Sound core = IsSound rules core

  sound_start : (count : ℕ) → rules.consistent rules.start → Sound (core_start count)
  sound_start count consistent = record {
    kept = record { legal = refl; numbered = refl; consistent = consistent };
    published = omega arith;
    seen = λ k. omega arith;
    own = λ k. refl;
    based = λ k. tt;
  }

  -- a longer beginning has all entries that a session has, if a shorter one has them
  own_more : (core : CoreState C E) (session seen : ℕ) → Sound core → (core.sessions session).seen ≤ seen → seen ≤ length core.journal → calls_of rules.tag_of session (take seen core.journal) ≡ calls_of rules.tag_of session core.journal
  own_more core session seen s more within = calls_between rules.tag_of session (core.sessions session).seen seen core.journal more within (s.own session)

  -- a session with another state, which saw no less and has a plan of before
  sound_put : (core : CoreState C E) (session : ℕ) (state : SessionState C) → Sound core → (core.sessions session).seen ≤ state.seen → state.seen ≤ length core.journal → IsBased (length core.journal) state.plan
      → Sound (record core { sessions = put core.sessions session state })
  sound_put core session state s more within based = record {
    kept = s.kept;
    published = s.published;
    seen = put_all (λ k (x : SessionState C). x.seen ≤ length core.journal) core.sessions session state within (λ k apart. s.seen k);
    own = put_all (λ k (x : SessionState C). calls_of rules.tag_of k (take x.seen core.journal) ≡ calls_of rules.tag_of k core.journal) core.sessions session state
        (own_more core session state.seen s more within)
        (λ k apart. s.own k);
    based = put_all (λ k (x : SessionState C). IsBased (length core.journal) x.plan) core.sessions session state based (λ k apart. s.based k);
  }

  sound_saw : (core : CoreState C E) (session seen : ℕ) → Sound core → (core.sessions session).seen ≤ seen → seen ≤ length core.journal → Sound (saw core session seen)
  sound_saw core session seen s more within = sound_put core session (record (core.sessions session) { seen = seen }) s more within (s.based session)

  sound_published : (core : CoreState C E) → Sound core → Sound (all_published core)
  sound_published core s = record { kept = s.kept; published = omega arith; seen = s.seen; own = s.own; based = s.based }

  -- the entry may come next, and it is the session's next call
  abbrev IsNext : CoreState C E → ℕ → Option E → Type 0
  IsNext core session entry = IfSome entry (λ e. (rules.takes (replay rules core.journal) e ≡ true) × (rules.tag_of e ≡ tagged session (calls_of rules.tag_of session core.journal + 1)))

  sound_settled : StaysConsistent → (core : CoreState C E) (session : ℕ) (entry : Option E) → Sound core → IsNext core session entry → Sound (settled_by core session entry)
  sound_settled keeps core session None s next = sound_put core session (record { seen = length core.journal; plan = None }) s (s.seen session) (omega arith) tt
  sound_settled keeps core session (Some e) s next =
      let tag : Tag = tagged session (calls_of rules.tag_of session core.journal + 1) in
      let journal = core.journal in
      let longer : length (journal ++ e ∷ []) ≡ length journal + 1 = length-append journal (e ∷ []) in
      let call : (rules.tag_of e).call ≡ calls_of rules.tag_of (rules.tag_of e).session journal + 1 = rw next.1 refl in
      let state : SessionState C = record { seen = length (journal ++ e ∷ []); plan = None } in record {
        kept = journal_push rules keeps journal e s.kept next.0 call;
        published = omega (arith, s.published, longer);
        seen = put_all (λ k (x : SessionState C). x.seen ≤ length (journal ++ e ∷ [])) core.sessions session state (omega arith) (λ k apart. omega (arith, s.seen k, longer));
        own = put_all (λ k (x : SessionState C). calls_of rules.tag_of k (take x.seen (journal ++ e ∷ [])) ≡ calls_of rules.tag_of k (journal ++ e ∷ [])) core.sessions session state
            (ap (calls_of rules.tag_of session) (take-length (journal ++ e ∷ [])))
            (λ k apart. ap (calls_of rules.tag_of k) (take-append-le (core.sessions k).seen journal (e ∷ []) (s.seen k)) ∙ (s.own k ∙ sym (calls_other rules.tag_of journal e tag k next.1 apart)));
        based = put_all (λ k (x : SessionState C). IsBased (length (journal ++ e ∷ [])) x.plan) core.sessions session state tt
            (λ k apart. based_more (core.sessions k).plan (length journal) (length (journal ++ e ∷ [])) (omega (arith, longer)) (s.based k));
      }

  sound_plan : (core : CoreState C E) (session : ℕ) (command : C) (b : Bool) → can_read core session ≡ b → Sound core → Sound (planned_by b core session command)
  sound_plan core session command true is s = sound_put core session (record { seen = core.published; plan = Some (record { command = command; base = core.published }) }) s (reads_more core session is) s.published s.published
  sound_plan core session command false is s = s

  sound_ask : (core : CoreState C E) (session : ℕ) (b : Bool) → can_read core session ≡ b → Sound core → Sound (asked_by b core session)
  sound_ask core session true is s = sound_saw core session core.published s (reads_more core session is) s.published
  sound_ask core session false is s = s

  sound_freshen : (core : CoreState C E) (session : ℕ) (b : Bool) → Sound core → Sound (freshened_by b core session)
  sound_freshen core session true s = sound_saw (all_published core) session (length core.journal) (sound_published core s) (s.seen session) (omega arith)
  sound_freshen core session false s = s

  sound_commit : StaysConsistent → IsTaken → (core : CoreState C E) (session moment : ℕ) (plan : Option (Intent C)) → Sound core → Sound (committed_by rules core session moment plan)
  sound_commit keeps taken core session moment None s = s
  sound_commit keeps taken core session moment (Some intent) s =
      sound_settled keeps core session (acted_by rules core session moment intent.command).entry s (taken (replay rules core.journal) (tagged session (calls_of rules.tag_of session core.journal + 1)) moment intent.command)

  sound_step : StaysConsistent → IsTaken → (core : CoreState C E) (event : Event C Q) → Sound core → Sound (core_step rules core event)
  sound_step keeps taken core (Plan session command) s = sound_plan core session command (can_read core session) refl s
  sound_step keeps taken core (Commit session moment) s = sound_commit keeps taken core session moment (plan_of core session) s
  sound_step keeps taken core Publish s = sound_published core s
  sound_step keeps taken core (Ask session query moment) s = sound_ask core session (can_read core session) refl s
  sound_step keeps taken core (Freshen session) s = sound_freshen core session (nat_lt session core.count) s

  sound_fold : StaysConsistent → IsTaken → (core : CoreState C E) (events : List (Event C Q)) → Sound core → Sound (fold (core_step rules) core events)
  sound_fold keeps taken core [] s = s
  sound_fold keeps taken core (event ∷ events) s = sound_fold keeps taken (core_step rules core event) events (sound_step keeps taken core event s)

  pub sound_after : rules.consistent rules.start → StaysConsistent → IsTaken → (count : ℕ) (events : List (Event C Q)) → Sound (core_after rules count events)
  sound_after consistent keeps taken count events = sound_fold keeps taken (core_start count) events (sound_start count consistent)

  -- ---- no length falls

  grows_self : (core : CoreState C E) → Grows core core
  grows_self core = record { journal = prefix_self core.journal; published = omega arith; seen = λ k. omega arith }

  grows_put : (core : CoreState C E) (session : ℕ) (state : SessionState C) → (core.sessions session).seen ≤ state.seen → (k : ℕ) → (core.sessions k).seen ≤ (put core.sessions session state k).seen
  grows_put core session state more = put_all (λ k (x : SessionState C). (core.sessions k).seen ≤ x.seen) core.sessions session state more (λ k apart. omega arith)

  extended_prefix : (journal : List E) (entry : Option E) → IsPrefix journal (extended journal entry)
  extended_prefix journal None = prefix_self journal
  extended_prefix journal (Some e) = (e ∷ [], refl)

  grows_plan : (core : CoreState C E) (session : ℕ) (command : C) (b : Bool) → can_read core session ≡ b → Grows core (planned_by b core session command)
  grows_plan core session command true is = record { journal = prefix_self core.journal; published = omega arith; seen = grows_put core session _ (reads_more core session is) }
  grows_plan core session command false is = grows_self core

  grows_ask : (core : CoreState C E) (session : ℕ) (b : Bool) → can_read core session ≡ b → Grows core (asked_by b core session)
  grows_ask core session true is = record { journal = prefix_self core.journal; published = omega arith; seen = grows_put core session _ (reads_more core session is) }
  grows_ask core session false is = grows_self core

  grows_freshen : (core : CoreState C E) (session : ℕ) (b : Bool) → Sound core → Grows core (freshened_by b core session)
  grows_freshen core session true s = record { journal = prefix_self core.journal; published = s.published; seen = grows_put core session _ (s.seen session) }
  grows_freshen core session false s = grows_self core

  grows_commit : (core : CoreState C E) (session moment : ℕ) (plan : Option (Intent C)) → Sound core → Grows core (committed_by rules core session moment plan)
  grows_commit core session moment None s = grows_self core
  grows_commit core session moment (Some intent) s =
      let entry = (acted_by rules core session moment intent.command).entry in
      let longer = extended_prefix core.journal entry in
      record { journal = longer; published = omega arith; seen = grows_put core session _ (omega (arith, s.seen session, prefix_length core.journal (extended core.journal entry) longer)) }

  pub grows_step : (core : CoreState C E) (event : Event C Q) → Sound core → Grows core (core_step rules core event)
  grows_step core (Plan session command) s = grows_plan core session command (can_read core session) refl
  grows_step core (Commit session moment) s = grows_commit core session moment (plan_of core session) s
  grows_step core Publish s = record { journal = prefix_self core.journal; published = s.published; seen = λ k. omega arith }
  grows_step core (Ask session query moment) s = grows_ask core session (can_read core session) refl
  grows_step core (Freshen session) s = grows_freshen core session (nat_lt session core.count) s
