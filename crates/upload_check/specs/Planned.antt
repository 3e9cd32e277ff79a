-- An upload that was planned on a map, and where its plan stands.
use Rattle.std.specs.Prelude.{◌≡◌, ℕ, ◌+◌, nat_lt, List, length, slice_get, Some, Result, Ok, Err, MatchResult}
use Rattle.osm_base.specs.Key.{IsRising}
use Rattle.osm_base.specs.Outcome.{◌>>=◌, refuse_if}
use Rattle.osm_base.specs.declared.people.User.{User}
use Rattle.osm_change.specs.Moments.{RefusalHasShownEnd}
use Rattle.osm_change.specs.declared.operations.OpDone.{OpDone}
use Rattle.osm_change.specs.declared.refusals.Refusal.{Refusal}
use Rattle.osm_change.specs.declared.refusals.Refusal.TheVariants as refused
use Rattle.changeset_core.specs.Changeset.{limit_of}
use Rattle.changeset_core.specs.declared.records.ChangesetRecord.{ChangesetRecord}
use Rattle.osm_element.specs.declared.elements.Elements.{Elements}
use Rattle.osm_later.specs.declared.looks.CountLook.{CountLook}
use Rattle.osm_later.specs.declared.looks.UsersLook.{UsersLook}
use Rattle.osm_later.specs.declared.looks.Look.{Look}
use Rattle.osm_later.specs.Settle.{Done, tested_done}
use Rattle.osm_later.specs.Plan.{Plan, StandsOn, IsPlannedOn}
use Rattle.osm_later.specs.Still.{Differs}
use Rattle.upload_check.specs.Asked.{AskedUpload}
use Rattle.upload_check.specs.declared.plans.Found.{Found}
use Rattle.upload_check.specs.declared.plans.Found.TheVariants as found

-- what is asked for, the looks, and what the operations did and touched
pub record Planned : Type 0 where
  pub asked : AskedUpload
  pub counts : List CountLook
  pub users : List UsersLook
  pub outcome : Result Done Refusal

abbrev pub outcome_of : Found → Result Done Refusal
outcome_of (found.Done rows touched) = Ok (record { rows = rows; touched = touched })
outcome_of (found.Refused r) = Err r

-- as the rules of plans see it
abbrev pub plan_of : Planned → Plan
plan_of p = record {
  changeset = p.asked.changeset;
  operations = p.asked.change;
  counts = p.counts;
  users = p.users;
  outcome = p.outcome;
}

-- it is the plan of what is asked, made on these elements
pub record IsPlanOf (E : Elements) (a : AskedUpload) (p : Planned) : Type 0 where
  pub asked : p.asked ≡ a
  pub planned : IsPlannedOn E (plan_of p)

-- the plan stands, or else this is where it and the map differ
abbrev pub IsStill : Result (Unit {0}) Look → Planned → Elements → Type 0
IsStill told p E = MatchResult told (λ _. StandsOn (plan_of p) E) (λ look. ¬ StandsOn (plan_of p) E × Differs look (plan_of p) E)

-- what was found out, where the changeset takes it
abbrev pub taken_by : User → ℕ → ChangesetRecord → Result Done Refusal → Result (List OpDone) Refusal
taken_by user c r outcome = outcome >>= tested_done user c r

-- the changeset takes so many versions more
abbrev pub room_for : ℕ → ChangesetRecord → ℕ → Result (Unit {0}) Refusal
room_for c r n =
    refuse_if (nat_lt (limit_of r) (length r.did + n)) (refused.Full n c (length r.did) (limit_of r))

abbrev pub IsShown : Result Done Refusal → Type 0
IsShown (Ok d) = Unit {0}
IsShown (Err r) = RefusalHasShownEnd r

-- what every plan has: its lists of users are in order, and each moment of its refusal has a text
pub record IsKept (p : Planned) : Type 0 where
  pub rising : (i : ℕ) (look : UsersLook) → slice_get p.users i ≡ Some look → IsRising look.users
  pub shown : IsShown p.outcome
