-- What outlets hold; and of an outlet in memory also which offers it refuses.
use Rattle.std.specs.Prelude.{◌≡◌, ℕ, ◌+◌, ◌-◌, ◌^◌, ◌⊎◌, min, List, [], ◌∷◌, ◌++◌, Option, Some, None}
use Rattle.std.specs.List.{Contains}

-- what is held with one entry more at its end, where the outlet tells what it holds
abbrev pub with_offer : {E : Type 0} → Option (List E) → E → Option (List E)
with_offer None entry = None
with_offer (Some held) entry = Some (held ++ entry ∷ [])

-- the entries that are held, the first one first; how many offers were made; and the numbers, from 0, of those that are refused
pub record Listed (E : Type 0) : Type 0 where
  pub held : List E
  pub made : ℕ
  pub bad : List ℕ

module _ {E : Type 0} where
  -- nothing is held, and no offer was made
  abbrev pub no_offer : List ℕ → Listed E
  no_offer bad = record { held = []; made = 0; bad = bad }

  -- the next offer is one of those that are refused
  abbrev pub IsBad : Listed E → Type 0
  IsBad outlet = Contains outlet.bad outlet.made

  -- one offer more. A count of 64 bits stands still at the greatest
  abbrev pub counted : Listed E → Listed E
  counted outlet = record outlet { made = min (outlet.made + 1) (2 ^ 64 - 1) }

  -- the offer counts, and its entry is held behind the others
  abbrev pub with_entry : Listed E → E → Listed E
  with_entry outlet entry = record (counted outlet) { held = outlet.held ++ entry ∷ [] }

  -- the entry was taken, by an offer that isn't bad
  abbrev pub IsTaken : Listed E → E → Listed E → Type 0
  IsTaken before entry after = (after ≡ with_entry before entry) × ¬ IsBad before

  -- nothing was offered, or an offer counts and was refused
  abbrev pub IsKept : Listed E → Listed E → Type 0
  IsKept before after = (after ≡ before) ⊎ (after ≡ counted before)
