-- The journal of a machine: the list of its entries, and the calls that it has of each session.
use Rattle.std.specs.Prelude.{◌≡◌, ℕ, ◌+◌, ◌<◌, ◌==◌, Bool, true, ◌&&◌, List, [], ◌∷◌, ◌++◌, Option, Some, None, MatchOption, count_by, length, unwrap_or}
use Rattle.std.specs.BTreeMap.{BTreeMap, get}
use Rattle.std.specs.Ordering.{nat_cmp}
use mathlib.Core.List.{IsPrefix}
use Rattle.machine_law.specs.declared.tags.Tag.{Tag}
use Rattle.machine_law.specs.Rules.{Rules, replay, is_legal}

-- what the counts have of the session: 0 where it has no place
abbrev pub count_of : BTreeMap ℕ ℕ → ℕ → ℕ
count_of counts session = unwrap_or (get nat_cmp counts session) 0

-- what the counts have at their last place, where there is one. No session past it has an entry
abbrev pub IsLast : BTreeMap ℕ ℕ → Option (ℕ × ℕ) → Type 0
IsLast counts place = MatchOption place ((session : ℕ) → count_of counts session ≡ 0)
    (λ place. (count_of counts place.0 ≡ place.1) × ((session : ℕ) → place.0 < session → count_of counts session ≡ 0))

-- the greatest session with an entry, where there is one
abbrev pub IsGreatest : BTreeMap ℕ ℕ → Option ℕ → Type 0
IsGreatest counts greatest = MatchOption greatest ((session : ℕ) → count_of counts session ≡ 0)
    (λ last. (0 < count_of counts last) × ((session : ℕ) → last < session → count_of counts session ≡ 0))

module _ {E : Type 0} (tag_of : E → Tag) where
  -- how many entries the session has
  abbrev pub calls_of : ℕ → List E → ℕ
  calls_of session entries = count_by (λ e. (tag_of e).session == session) entries

  -- the calls of each session are numbered 1, 2, 3 and so on, in order, those of before among them
  abbrev pub is_numbered : List E → List E → Bool
  is_numbered before [] = true
  is_numbered before (e ∷ es) = ((tag_of e).call == calls_of (tag_of e).session before + 1) && is_numbered (before ++ e ∷ []) es

  -- the counts have of each session the number of its entries
  abbrev pub AreCounted : BTreeMap ℕ ℕ → List E → Type 0
  AreCounted counts entries = (session : ℕ) → count_of counts session ≡ calls_of session entries

-- the entries with one more at their end, if there is one
abbrev pub extended : {E : Type 0} → List E → Option E → List E
extended entries None = entries
extended entries (Some e) = entries ++ e ∷ []

-- the place that the entry gets behind these, if there is one
abbrev pub place_of : {E : Type 0} → List E → Option E → Option ℕ
place_of entries None = None
place_of entries (Some e) = Some (length entries)

module _ {S C Q P E K : Type 0} (rules : Rules S C Q P E K) where
  -- what holds of each journal of the machine
  pub record IsJournal (entries : List E) : Type 0 where
    pub legal : is_legal rules entries ≡ true
    pub numbered : is_numbered rules.tag_of [] entries ≡ true
    pub consistent : rules.consistent (replay rules entries)

  -- the plan was made for some command, after a beginning of these entries
  abbrev pub IsMadeBefore : P → List E → Type 0
  IsMadeBefore plan entries = (made : List E) × (command : C) × IsPrefix made entries × rules.planned (replay rules made) command plan
