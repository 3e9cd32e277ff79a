-- What a commit gives.
use Rattle.std.specs.Prelude.{◌≡◌, ℕ, List, Option}
use Rattle.machine_law.specs.Rules.{Rules}
use Rattle.machine_law.specs.declared.tags.Settled.{Settled}
use Rattle.hub_core.specs.declared.dones.Path.{Path}
use Rattle.hub_core.specs.declared.dones.Path.TheVariants.{Fast, Slow}
use Rattle.hub_core.specs.Journal.{extended, place_of}

abbrev pub MatchPath : {K : Type 0} → Path K → Type 0 → (K → Type 0) → Type 0
MatchPath Fast stood differed = stood
MatchPath (Slow look) stood differed = differed look

-- fast where the plan stands on this state, and else slow with a look at which they differ
abbrev pub IsPath : {S C Q P E K : Type 0} → Rules S C Q P E K → P → S → Path K → Type 0
IsPath rules plan state path = MatchPath path (rules.stands plan state) (λ look. ¬ rules.stands plan state × rules.differs look plan state)

-- the answer is what the command comes to, its entry is at the journal's end, and the place is that of the entry
pub record IsDone {E : Type 0} (settled : Settled E) (before after : List E) (answer : List ℕ) (place : Option ℕ) : Type 0 where
  pub answer_is : answer ≡ settled.answer
  pub entered : after ≡ extended before settled.entry
  pub placed : place ≡ place_of before settled.entry
