-- What the end of a hub tells.
use Rattle.std.specs.Prelude.{◌≡◌, ℕ, ◌+◌, ◌≤◌, ◌==◌, List, [], ◌∷◌, if◌then◌else◌}
use Rattle.std.proofs.Common.{zero, suc}
use Rattle.machine_law.specs.declared.tags.Tag.{Tag}
use Rattle.machine_law.specs.Rules.{Rules}
use Rattle.hub_core.specs.Journal.{calls_of, IsJournal}
use Rattle.snapshot_hub.specs.Ends.{Ends}

-- the journal, and how the sessions ended so far
pub record Close (E : Type 0) : Type 0 where
  pub journal : List E
  pub ends : Ends

abbrev pub close : {E : Type 0} → List E → Ends → Close E
close journal ends = record { journal = journal; ends = ends }

module _ {E : Type 0} (tag_of : E → Tag) where
  -- the call numbers of a session's entries, in the order of the journal
  abbrev pub numbers_of : ℕ → List E → List ℕ
  numbers_of session [] = []
  numbers_of session (e ∷ es) = if (tag_of e).session == session then ((tag_of e).call ∷ numbers_of session es) else numbers_of session es

-- so many numbers from this one on
abbrev pub from : ℕ → ℕ → List ℕ
from first zero = []
from first (suc more) = first ∷ from (first + 1) more

-- of each session each call number from 1 to the number of its entries stands in the journal exactly once, and in order
abbrev pub EachOnce : {E : Type 0} → (E → Tag) → List E → Type 0
EachOnce tag_of journal = (session : ℕ) → numbers_of tag_of session journal ≡ from 1 (calls_of tag_of session journal)

-- no entry but those of so many sessions, whose numbers begin with 0
abbrev pub AreSeated : {E : Type 0} → (E → Tag) → ℕ → List E → Type 0
AreSeated tag_of sessions journal = (session : ℕ) → sessions ≤ session → calls_of tag_of session journal ≡ 0

-- What holds of each beginning of a hub's journal that is seen: it is a journal of the machine, with no entry but those of so many sessions.
pub record IsFront {S C Q P E K : Type 0} (rules : Rules S C Q P E K) (sessions : ℕ) (entries : List E) : Type 0 where
  pub kept : IsJournal rules entries
  pub seated : AreSeated rules.tag_of sessions entries
