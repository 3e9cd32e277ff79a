-- What is put in the place of one session keeps what stands for the others.
use Rattle.std.proofs.Common.{◌≡◌, ◌≢◌, ℕ, ◌+◌, ◌≤◌, ◌<◌, ◌==◌, Bool, true, false, length, take, drop, drop-cons, suc, set, get_or, sym, subst, List, [], ◌∷◌, ◌++◌, Option, Some, None, ap, refl, ◌∙◌, arith, length-append}
use Rattle.std.specs.Prelude.{Result, Ok, Err, IfOk, MatchOption, nat_lt, if◌then◌else◌}
use Rattle.std.proofs.lemmas.List.{get_or-set_same, get_or-set_other, take-append-drop, take-append-le}
use Rattle.std.proofs.lemmas.List.Sums.{fold_more}
use Rattle.std.proofs.Math.ListN.{length-set}
use Rattle.std.proofs.lemmas.Bool.{eq-eqb, ne_eqb, ltb-true, lt-ltb}
use native.Mathlib.Decide.{ℕ_discrete}
use mathlib.Core.List.{IsPrefix}
use Rattle.machine_law.specs.declared.tags.Settled.{Settled}
use Rattle.machine_law.specs.Rules.{Rules, replay, is_legal}
use Rattle.hub_core.specs.declared.dones.Done.{Done}
use Rattle.hub_core.specs.declared.events.Seen.TheVariants.{Committed}
use Rattle.hub_core.specs.declared.running.Caller.{Caller}
use Rattle.hub_core.specs.Journal.{calls_of, extended, place_of}
use Rattle.hub_core.specs.Core.{CoreState, SessionState, Intent, put, plan_of, settled_by, acted_by, committed_by, tells_commit, tagged, all_published}
use Rattle.hub_core.specs.Stages.{Stage, stage, IsPlanKept, ArePlansKept, HasPlan, IsCaller, StandsFor, IsPathOf, IsTold}
use Rattle.hub_core.proofs.Prefixes.{prefix_trans}
use Rattle.hub_core.proofs.Legal.{legal_rest, legal_head}

-- what holds of the new element and of each other holds of all
set_all : {A : Type 0} (P : ℕ → A → Type 0) (xs : List A) (i : ℕ) (x : A) → i < length xs → P i x
    → ((k : ℕ) (other : A) → k < length xs → k ≢ i → P k (get_or xs k other)) → (k : ℕ) (other : A) → k < length (set xs i x) → P k (get_or (set xs i x) k other)
set_all {A} P xs i x lt here others k other within = go (ℕ_discrete k i) where
  go : Dec (k ≡ i) → P k (get_or (set xs i x) k other)
  go (yes same) = subst (λ (j : ℕ). P j (get_or (set xs i x) j other)) (sym same) (subst (P i) (sym (get_or-set_same xs i x other lt)) here)
  go (no apart) = subst (P k) (sym (get_or-set_other xs i k x other apart)) (others k other (omega (arith, length-set xs i x)) apart)

put_same : {C : Type 0} (sessions : ℕ → SessionState C) (session : ℕ) (state : SessionState C) → put sessions session state session ≡ state
put_same sessions session state = let here : (session == session) ≡ true = eq-eqb session session refl in rw here refl

put_other : {C : Type 0} (sessions : ℕ → SessionState C) (session k : ℕ) (state : SessionState C) → k ≢ session → put sessions session state k ≡ sessions k
put_other sessions session k state apart = let other : (k == session) ≡ false = ne_eqb k session apart in rw other refl

-- the journal after a commit that gave this place
abbrev pub IsCommittedTo : {E : Type 0} → Option ℕ → List E → List E → Type 0
IsCommittedTo None old new = new ≡ old
IsCommittedTo {E} (Some place) old new = (e : E) × (new ≡ old ++ e ∷ [])

pub committed_to : {E : Type 0} (U : Type 0) (V W : E → Type 0) (place : Option ℕ) (old new : List E)
    → MatchOption place ((new ≡ old) × U) (λ _. (e : E) × (new ≡ old ++ e ∷ []) × V e × W e) → IsCommittedTo place old new
committed_to U V W None old new h = h.0
committed_to U V W (Some place) old new h = (h.0, h.1)

-- what holds of an entry holds of its copy
pub if_copied : {A E : Type 0} (P : A → Type 0) (copy : Result A E) (x : A) → P x → IfOk copy (λ y. y ≡ x) → IfOk copy P
if_copied P (Ok y) x p same = subst P (sym same) p
if_copied P (Err e) x p same = tt

-- what is published stays where the journal grows
pub shown_grown : {E : Type 0} (place : Option ℕ) (old new : List E) (published : ℕ)
    → IsCommittedTo place old new → published ≤ length old → (take published new ≡ take published old) × (published ≤ length new)
shown_grown None old new published same le = rw same (refl, le)
shown_grown (Some place) old new published one le = rw one.1 (take-append-le published old (one.0 ∷ []) le, omega (arith, length-append old (one.0 ∷ [])))

module _ {S C Q P E K : Type 0} (rules : Rules S C Q P E K) where
  -- each entry of a legal journal may come next where it stands
  pub taken_at : (xs : List E) (i : ℕ) (e : E) → is_legal rules xs ≡ true → i < length xs → e ≡ get_or xs i e → rules.takes (replay rules (take i xs)) e ≡ true
  taken_at xs i e legal lt is =
      let parts : take i xs ++ (get_or xs i e ∷ drop (suc i) xs) ≡ xs = ap (λ r. take i xs ++ r) (sym (drop-cons xs i e lt)) ∙ take-append-drop i xs in
      let rest = legal_rest rules rules.start (take i xs) (get_or xs i e ∷ drop (suc i) xs) (subst (λ (l : List E). is_legal rules l ≡ true) (sym parts) legal) in
      ap (rules.takes (replay rules (take i xs))) is ∙ (legal_head rules (replay rules (take i xs)) (get_or xs i e) (drop (suc i) xs) rest).0

  -- what is shown follows one entry more
  pub replay_more : (xs : List E) (i : ℕ) (e : E) → i < length xs → e ≡ get_or xs i e → rules.after (replay rules (take i xs)) e ≡ replay rules (take (i + 1) xs)
  replay_more xs i e lt is = ap (rules.after (replay rules (take i xs))) is ∙ sym (fold_more rules.after rules.start xs i e lt)

  -- ---- the plans that are kept

  pub kept_put : (journal : List E) (callers : List (Caller P)) (session : ℕ) (caller : Caller P) → ArePlansKept rules journal callers → session < length callers
      → IsPlanKept rules journal caller.plan → ArePlansKept rules journal (set callers session caller)
  kept_put journal callers session caller all lt plan =
      set_all (λ k (x : Caller P). IsPlanKept rules journal x.plan) callers session caller lt plan (λ k other within apart. all k other within)

  kept_more : (old new : List E) (plan : Option P) → IsPrefix old new → IsPlanKept rules old plan → IsPlanKept rules new plan
  kept_more old new None longer h = tt
  kept_more old new (Some plan) longer h = (h.0, h.1, prefix_trans h.0 old new h.2 longer, h.3)

  pub kept_grown : (place : Option ℕ) (old new : List E) (callers : List (Caller P)) → ArePlansKept rules old callers → IsCommittedTo place old new → ArePlansKept rules new callers
  kept_grown None old new callers all same = rw same all
  kept_grown (Some place) old new callers all one = λ session other within. kept_more old new (get_or callers session other).plan (one.0 ∷ [], sym one.1) (all session other within)

  pub without_plan : (journal : List E) (callers left : List (Caller P)) (session : ℕ) (old : Caller P) → ArePlansKept rules journal callers
      → session < length callers → left ≡ set callers session (record old { plan = None }) → ArePlansKept rules journal left
  without_plan journal callers left session old all lt same = rw same (kept_put journal callers session (record old { plan = None }) all lt tt)

  -- ---- what stands for the core

  pub stands_put : (core : CoreState C E) (journal : List E) (published : ℕ) (callers : List (Caller P)) (session : ℕ) (state : SessionState C) (caller : Caller P)
      → StandsFor rules core (stage journal published callers) → session < length callers → IsCaller rules core.journal state caller
      → StandsFor rules (record core { sessions = put core.sessions session state }) (stage journal published (set callers session caller))
  stands_put core journal published callers session state caller s lt is = record {
    journal = s.journal;
    published = s.published;
    count = length-set callers session caller ∙ s.count;
    sessions = set_all (λ k (x : Caller P). IsCaller rules core.journal (put core.sessions session state k) x) callers session caller lt
        (subst (λ (y : SessionState C). IsCaller rules core.journal y caller) (sym (put_same core.sessions session state)) is)
        (λ k other within apart. subst (λ (y : SessionState C). IsCaller rules core.journal y (get_or callers k other)) (sym (put_other core.sessions session k state apart)) (s.sessions k other within));
  }

  pub stands_published : (core : CoreState C E) (old new : Stage E P) → StandsFor rules core old → new.journal ≡ old.journal → new.callers ≡ old.callers → new.published ≡ length old.journal
      → StandsFor rules (all_published core) new
  stands_published core old new s journal callers published = record {
    journal = journal ∙ s.journal;
    published = published ∙ ap length s.journal;
    count = ap length callers ∙ s.count;
    sessions = subst (λ (l : List (Caller P)). (k : ℕ) (other : Caller P) → k < length l → IsCaller rules core.journal (core.sessions k) (get_or l k other)) (sym callers) s.sessions;
  }

  has_more : (journal : List E) (entry : Option E) (intent : Option (Intent C)) (plan : Option P) → HasPlan rules journal intent plan → HasPlan rules (extended journal entry) intent plan
  has_more journal None intent plan h = h
  has_more journal (Some e) None None h = tt
  has_more journal (Some e) None (Some plan) h = h
  has_more journal (Some e) (Some intent) None h = h
  has_more journal (Some e) (Some intent) (Some plan) h =
      (omega (arith, h.0, length-append journal (e ∷ [])), subst (λ (l : List E). rules.planned (replay rules l) intent.command plan) (sym (take-append-le intent.base journal (e ∷ []) h.0)) h.1)

  pub stands_settled : (core : CoreState C E) (entry : Option E) (published : ℕ) (callers : List (Caller P)) (session : ℕ) (caller : Caller P)
      → published ≡ core.published → length callers ≡ core.count → session < length callers
      → ((k : ℕ) (other : Caller P) → k < length callers → k ≢ session → IsCaller rules core.journal (core.sessions k) (get_or callers k other))
      → caller.seen ≡ length (extended core.journal entry) → caller.plan ≡ None
      → StandsFor rules (settled_by core session entry) (stage (extended core.journal entry) published (set callers session caller))
  stands_settled core entry published callers session caller shown count lt others seen none =
      let journal = extended core.journal entry in
      let state : SessionState C = record { seen = length journal; plan = None } in
      let kept : HasPlan rules journal None caller.plan = rw none tt in record {
        journal = refl;
        published = shown;
        count = length-set callers session caller ∙ count;
        sessions = set_all (λ k (x : Caller P). IsCaller rules journal (put core.sessions session state k) x) callers session caller lt
            (subst (λ (y : SessionState C). IsCaller rules journal y caller) (sym (put_same core.sessions session state)) (seen, kept))
            (λ k other within apart.
            let c = others k other within apart in
            subst (λ (y : SessionState C). IsCaller rules journal y (get_or callers k other)) (sym (put_other core.sessions session k state apart))
            (c.0, has_more core.journal entry (core.sessions k).plan (get_or callers k other).plan c.1));
      }

  -- where a plan is kept, there is an intent
  pub intent_of : (journal : List E) (intent : Option (Intent C)) (plan : P) → HasPlan rules journal intent (Some plan)
      → (found : Intent C) × (intent ≡ Some found) × rules.planned (replay rules (take found.base journal)) found.command plan
  intent_of journal None plan h = absurd h
  intent_of journal (Some intent) plan h = (intent, refl, h.1)

  no_intent : (journal : List E) (intent : Option (Intent C)) → HasPlan rules journal intent None → intent ≡ None
  no_intent journal None h = refl
  no_intent journal (Some intent) h = absurd h

  -- the core has no plan where none is kept
  pub plan_is : (core : CoreState C E) (journal : List E) (published : ℕ) (callers : List (Caller P)) (session : ℕ) → StandsFor rules core (stage journal published callers)
      → ((other : Caller P) → session < length callers → (get_or callers session other).plan ≡ None) → plan_of core session ≡ None
  plan_is core journal published callers session s none = go (nat_lt session core.count) refl where
    go : (b : Bool) → nat_lt session core.count ≡ b → (if b then (core.sessions session).plan else None) ≡ None
    go false is = refl
    go true is =
        let lt : session < length callers = subst (λ (n : ℕ). session < n) (sym s.count) (ltb-true session core.count is) in
        let empty : Caller P = record { seen = 0; plan = None } in
        no_intent core.journal (core.sessions session).plan (subst (λ (p : Option P). HasPlan rules core.journal (core.sessions session).plan p) (none empty lt) (s.sessions session empty lt).1)

  pub plan_there : (core : CoreState C E) (session : ℕ) (intent : Intent C) → session < core.count → (core.sessions session).plan ≡ Some intent → plan_of core session ≡ Some intent
  plan_there core session intent lt is = rw (lt-ltb session core.count lt) is

  pub commit_told : (core : CoreState C E) (session moment call : ℕ) (intent : Intent C) (book new : List E) (published : ℕ) (callers : List (Caller P)) (done : Done K) (settled : Settled E)
      → plan_of core session ≡ Some intent → book ≡ core.journal → call ≡ calls_of rules.tag_of session book + 1
      → settled ≡ rules.act (replay rules book) (tagged session call) moment intent.command
      → new ≡ extended book settled.entry
      → StandsFor rules (settled_by core session settled.entry) (stage (extended core.journal settled.entry) published callers)
      → done.answer ≡ settled.answer → done.place ≡ place_of book settled.entry → IsPathOf rules book intent done
      → StandsFor rules (committed_by rules core session moment (plan_of core session)) (stage new published callers)
      × IsTold rules (tells_commit rules core session moment (plan_of core session)) (Committed done)
  commit_told core session moment call intent book new published callers done settled there same number is grown stands answer place path =
      let by : settled ≡ acted_by rules core session moment intent.command =
      is ∙ (ap (λ n. rules.act (replay rules book) (tagged session n) moment intent.command) number ∙ ap (λ b. rules.act (replay rules b) (tagged session (calls_of rules.tag_of session b + 1)) moment intent.command) same) in
      rw (there, grown, same) (
        subst (λ (a : Settled E). StandsFor rules (settled_by core session a.entry) (stage (extended core.journal settled.entry) published callers)) by stands,
        (
          answer ∙ ap (λ (a : Settled E). a.answer) by,
          place ∙ (ap (λ j. place_of j settled.entry) same ∙ ap (λ (a : Settled E). place_of core.journal a.entry) by),
          subst (λ (j : List E). IsPathOf rules j intent done) same path,
        ),
      )
