-- What holds of the core after each event.
use Rattle.std.specs.Prelude.{◌≡◌, ℕ, ◌≤◌, Option, Some, None, length, take}
use mathlib.Core.List.{IsPrefix}
use Rattle.machine_law.specs.Rules.{Rules}
use Rattle.hub_core.specs.Journal.{calls_of, IsJournal}
use Rattle.hub_core.specs.Core.{CoreState, Intent}

-- the plan was made after no more than so many entries
abbrev pub IsBased : {C : Type 0} → ℕ → Option (Intent C) → Type 0
IsBased most None = Unit {0}
IsBased most (Some intent) = intent.base ≤ most

-- the journal is one of the machine, no length exceeds its length, and what each session saw has all entries of its own
pub record IsSound {S C Q P E K : Type 0} (rules : Rules S C Q P E K) (core : CoreState C E) : Type 0 where
  pub kept : IsJournal rules core.journal
  pub published : core.published ≤ length core.journal
  pub seen : (session : ℕ) → (core.sessions session).seen ≤ length core.journal
  pub own : (session : ℕ) → calls_of rules.tag_of session (take (core.sessions session).seen core.journal) ≡ calls_of rules.tag_of session core.journal
  pub based : (session : ℕ) → IsBased (length core.journal) (core.sessions session).plan

-- the journal goes on, and no length falls
pub record Grows {C E : Type 0} (old new : CoreState C E) : Type 0 where
  pub journal : IsPrefix old.journal new.journal
  pub published : old.published ≤ new.published
  pub seen : (session : ℕ) → (old.sessions session).seen ≤ (new.sessions session).seen
