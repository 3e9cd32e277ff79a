-- What is seen of an upload while its operations are judged: what they did, and what they look at.
use Rattle.std.specs.Prelude.{◌≡◌, ℕ, List, [], ◌∷◌, ◌++◌, Option, Result, Ok, Err}
use Rattle.osm_base.specs.Place.{Area}
use Rattle.osm_base.specs.declared.keys.Key.{Key}
use Rattle.osm_element.specs.declared.elements.Elements.{Elements}
use Rattle.osm_change.specs.Change.{names_given}
use Rattle.osm_change.specs.declared.operations.Op.{Op}
use Rattle.osm_change.specs.declared.operations.OpDone.{OpDone}
use Rattle.osm_change.specs.declared.refusals.Refusal.{Refusal}
use Rattle.osm_later.specs.Looked.{old_keys, replaced_key, deleted_key, listed_by, user_named, looked_counts, looked_users}
use Rattle.osm_later.specs.Settle.{Done, done_of}
use Rattle.osm_later.specs.Account.{accounted}
use Rattle.osm_model.specs.Fold.{start, task}
use Rattle.osm_model.specs.Operation.{operate_all}

-- what operations did, the keys whose counts they look at, and those whose lists of users
pub record Seen : Type 0 where
  pub rows : List OpDone
  pub counted : List Key
  pub used : List Key

abbrev pub seen_in : List OpDone → List Key → List Key → Seen
seen_in rows counted used = record { rows = rows; counted = counted; used = used }

abbrev pub nothing_seen : Seen
nothing_seen = seen_in [] [] []

-- what judging an operation looks at, but for a user in its way
abbrev pub looks_of : Elements → Op → List Key
looks_of E o = old_keys (names_given o) ++ listed_by E (replaced_key o)

abbrev pub with_looks : Elements → Op → Seen → Seen
with_looks E o s = seen_in s.rows (s.counted ++ looks_of E o) (s.used ++ deleted_key o)

abbrev pub with_row : OpDone → Seen → Seen
with_row d s = seen_in (s.rows ++ d ∷ []) s.counted s.used

-- and the user in its way, if that is why it is refused
abbrev pub with_refusal : Refusal → Seen → Seen
with_refusal r s = seen_in s.rows (s.counted ++ user_named (Err r)) s.used

-- what operations that touched a box, or one of which is refused, come to
abbrev pub outcome_with : List OpDone → Result (Option Area) Refusal → Result Done Refusal
outcome_with rows (Ok touched) = Ok (record { rows = rows; touched = touched })
outcome_with rows (Err r) = Err r

-- The operations come to that, and whoever was to see them saw what they did and all that they look
-- at, on whatever changeset.
pub record IsWatched (E : Elements) (ops : List Op) (Saw : Seen → Type 0) (verdict : Result (Option Area) Refusal) : Type 0 where
  pub seen : Seen
  pub saw : Saw seen
  pub found : (c : ℕ) → done_of (accounted (operate_all (task E c 0 ops) (start E) ops)) ≡ outcome_with seen.rows verdict
  pub counts : (c : ℕ) → seen.counted ≡ looked_counts (task E c 0 ops) (start E) ops
  pub users : (c : ℕ) → seen.used ≡ looked_users (task E c 0 ops) (start E) ops
