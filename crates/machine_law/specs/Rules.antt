-- The rules of a machine: its states, what commands and queries come to on them, and how entries change them.
use Rattle.std.specs.Prelude.{◌≡◌, ℕ, Bool, true, ◌&&◌, List, [], ◌∷◌, fold}
use Rattle.machine_law.specs.declared.tags.Tag.{Tag}
use Rattle.machine_law.specs.declared.tags.Settled.{Settled}

-- over states, commands, queries, plans, entries, and the looks at which a plan and a state differ
pub record Rules (S C Q P E K : Type 0) : Type 1 where
  -- the state before all entries
  pub start : S
  -- what a command comes to, as that call, at a moment
  pub act : S → Tag → ℕ → C → Settled E
  -- the state after an entry
  pub after : S → E → S
  -- whether an entry may come next
  pub takes : S → E → Bool
  -- the answer to a query at a moment
  pub reply : S → Q → ℕ → List ℕ
  -- whose call made the entry
  pub tag_of : E → Tag
  -- the plan is one that this command gets on this state
  pub planned : S → C → P → Type 0
  -- all that the plan looked at is so on this state
  pub stands : P → S → Type 0
  -- the plan and this state differ there
  pub differs : K → P → S → Type 0
  -- what holds of each state that legal entries lead to
  pub consistent : S → Type 0

module _ {S C Q P E K : Type 0} (rules : Rules S C Q P E K) where
  -- the state after entries
  abbrev pub replay : List E → S
  replay entries = fold rules.after rules.start entries

  -- each entry may come next where it stands
  abbrev pub is_legal_from : S → List E → Bool
  is_legal_from s [] = true
  is_legal_from s (e ∷ es) = rules.takes s e && is_legal_from (rules.after s e) es

  abbrev pub is_legal : List E → Bool
  is_legal entries = is_legal_from rules.start entries

  -- t is s after entries, each of which may come next where it stands
  pub record Later (s t : S) : Type 0 where
    pub since : List E
    pub taken : is_legal_from s since ≡ true
    pub comes_to : t ≡ fold rules.after s since

  -- the plan was made for some command on some state, and this state is later
  pub record IsForeseen (plan : P) (now : S) : Type 0 where
    pub begun : S
    pub command : C
    pub planned : rules.planned begun command plan
    pub later : Later begun now
