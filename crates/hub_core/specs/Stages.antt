-- How the core that runs stands for the core of the definitions, and what its replies tell.
use Rattle.std.specs.Prelude.{◌≡◌, ℕ, ◌≤◌, ◌<◌, List, [], ◌∷◌, Option, Some, None, length, take, slice_index_or}
use Rattle.machine_law.specs.Rules.{Rules, replay}
use Rattle.hub_core.specs.declared.running.Caller.{Caller}
use Rattle.hub_core.specs.declared.dones.Done.{Done}
use Rattle.hub_core.specs.declared.events.Seen.{Seen}
use Rattle.hub_core.specs.declared.events.Seen.TheVariants.{Idle, Planned, Committed, Answered}
use Rattle.hub_core.specs.Core.{CoreState, SessionState, Intent, CoreReply}
use Rattle.hub_core.specs.Core.CoreReply.{Idle as ToldIdle, Planned as ToldPlanned, Committed as ToldCommitted, Answered as ToldAnswered}
use Rattle.hub_core.specs.Journal.{place_of, IsMadeBefore}
use Rattle.hub_core.specs.Paths.{IsPath}

-- what the running core holds, beside the two worlds
pub record Stage (E P : Type 0) : Type 0 where
  pub journal : List E
  pub published : ℕ
  pub callers : List (Caller P)

abbrev pub stage : {E P : Type 0} → List E → ℕ → List (Caller P) → Stage E P
stage journal published callers = record { journal = journal; published = published; callers = callers }

module _ {S C Q P E K : Type 0} (rules : Rules S C Q P E K) where
  -- a plan that is kept was made after a beginning of the journal
  abbrev pub IsPlanKept : List E → Option P → Type 0
  IsPlanKept journal None = Unit {0}
  IsPlanKept journal (Some plan) = IsMadeBefore rules plan journal

  abbrev pub ArePlansKept : List E → List (Caller P) → Type 0
  ArePlansKept journal callers =
      (session : ℕ) (other : Caller P) → session < length callers → IsPlanKept journal (slice_index_or callers session other).plan

  -- the plan is one of the intent's command, made on its base
  abbrev pub HasPlan : List E → Option (Intent C) → Option P → Type 0
  HasPlan journal None None = Unit {0}
  HasPlan journal (Some intent) (Some plan) = (intent.base ≤ length journal) × rules.planned (replay rules (take intent.base journal)) intent.command plan
  HasPlan journal None (Some plan) = ⊥
  HasPlan journal (Some intent) None = ⊥

  abbrev pub IsCaller : List E → SessionState C → Caller P → Type 0
  IsCaller journal session caller = (caller.seen ≡ session.seen) × HasPlan journal session.plan caller.plan

  -- the stage has the journal and the lengths of the core, and for each intent a plan
  pub record StandsFor (core : CoreState C E) (staged : Stage E P) : Type 0 where
    pub journal : staged.journal ≡ core.journal
    pub published : staged.published ≡ core.published
    pub count : length staged.callers ≡ core.count
    pub sessions : (session : ℕ) (other : Caller P) → session < length staged.callers → IsCaller core.journal (core.sessions session) (slice_index_or staged.callers session other)

  -- the path is that of some plan of the intent
  abbrev pub IsPathOf : List E → Intent C → Done K → Type 0
  IsPathOf found intent done =
      (plan : P) × rules.planned (replay rules (take intent.base found)) intent.command plan × IsPath rules plan (replay rules found) done.path

  -- the reply is the one that is told
  abbrev pub IsTold : CoreReply C E → Seen K → Type 0
  IsTold ToldIdle Idle = Unit {0}
  IsTold ToldPlanned Planned = Unit {0}
  IsTold (ToldCommitted found intent settled) (Committed done) = (done.answer ≡ settled.answer) × (done.place ≡ place_of found settled.entry) × IsPathOf found intent done
  IsTold (ToldAnswered bytes) (Answered answer) = answer ≡ bytes
  IsTold ToldIdle _ = ⊥
  IsTold ToldPlanned _ = ⊥
  IsTold (ToldCommitted found intent settled) _ = ⊥
  IsTold (ToldAnswered bytes) _ = ⊥

  abbrev pub AreTold : List (CoreReply C E) → List (Seen K) → Type 0
  AreTold [] [] = Unit {0}
  AreTold (told ∷ more) (seen ∷ rest) = IsTold told seen × AreTold more rest
  AreTold [] (seen ∷ rest) = ⊥
  AreTold (told ∷ more) [] = ⊥
