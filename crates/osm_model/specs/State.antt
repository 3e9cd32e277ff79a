-- The map: its elements, changesets, redactions and last stamp.
use Rattle.std.specs.Prelude.{ℕ, ◌-◌, ◌<◌, ◌≤◌, ◌==◌, if◌then◌else◌, List, [], ◌++◌, ◌∷◌, length, slice_get, slice_set, Option, None, Result, Err}
use Rattle.std.specs.Option.{option_map_or}
use Rattle.osm_base.specs.Place.{Area}
use Rattle.osm_base.specs.declared.keys.Key.{Key}
use Rattle.osm_base.specs.declared.people.User.{User}
use Rattle.osm_element.specs.Elements.{no_elements, mark}
use Rattle.osm_element.specs.Tags.{Tag}
use Rattle.osm_element.specs.declared.elements.Elements.{Elements}
use Rattle.osm_change.specs.declared.refusals.Refusal.{Refusal}
use Rattle.osm_change.specs.declared.refusals.Refusal.TheVariants as refused
use Rattle.changeset_core.specs.declared.records.ChangesetRecord.{ChangesetRecord}
use Rattle.changeset_core.specs.declared.records.Work.{Work}
use Rattle.changeset_core.specs.Changeset.{retagged, ended_at, worked_by}
use Rattle.osm_model.specs.declared.states.State.{State}
use Rattle.osm_model.specs.Changeset.{own_record}

abbrev pub empty : State
empty = record { elements = no_elements; changesets = []; redactions = []; last = 0 }

-- changeset 1 is the first
abbrev pub changeset : State → ℕ → Option ChangesetRecord
changeset P c = if c == 0 then None else slice_get P.changesets (c - 1)

-- there is such a changeset
abbrev pub HasChangeset : State → ℕ → Type 0
HasChangeset P c = (0 < c) × (c ≤ length P.changesets)

-- the record of a changeset that the user may work on
abbrev pub own_changeset : State → User → ℕ → ℕ → Result ChangesetRecord Refusal
own_changeset P user t c = option_map_or (own_record user t c) (changeset P c) (Err (refused.NoChangeset c))

abbrev pub with_record : State → ℕ → ChangesetRecord → State
with_record P c r = record P { changesets = slice_set P.changesets (c - 1) r }

-- the state with one record changed, where there is such a changeset
abbrev pub changed : State → ℕ → (ChangesetRecord → ChangesetRecord) → State
changed P c change = option_map_or (λ r. with_record P c (change r)) (changeset P c) P

abbrev pub with_changeset : State → ChangesetRecord → State
with_changeset P r = record P { changesets = P.changesets ++ r ∷ [] }

abbrev pub with_tags : State → ℕ → List Tag → ℕ → State
with_tags P c tags t = changed P c (λ r. retagged r tags t)

abbrev pub with_end : State → ℕ → ℕ → State
with_end P c t = changed P c (λ r. ended_at r t)

-- the state after an upload at a stamp left these elements, made these versions and touched this area
abbrev pub with_work : State → ℕ → ℕ → Elements → List Work → Option Area → State
with_work P c t E works area = record (changed P c (λ r. worked_by r works area t)) { elements = E }

abbrev pub with_redaction : State → List ℕ → State
with_redaction P title = record P { redactions = P.redactions ++ title ∷ [] }

-- the state with a mark on a version, or without it
abbrev pub with_mark : State → Key → ℕ → Option ℕ → State
with_mark P k n redaction = record P { elements = mark P.elements k n redaction }
