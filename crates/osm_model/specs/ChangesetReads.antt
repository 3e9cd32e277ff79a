-- Reading changesets (wiki, API v0.6, "Changesets").
use Rattle.std.specs.Prelude.{ℕ, Bool, true, false, not, ◌==◌, ◌&&◌, ◌||◌, List, length, map, filter, filter_map, take, reverse, is_some, Option, option_map, Result, Ok, Err}
use Rattle.std.specs.Option.{option_map_or}
use Rattle.osm_base.specs.Place.{Area, areas_meet}
use Rattle.osm_base.specs.declared.limits.TheConstants.{QUERY_LIMIT}
use Rattle.osm_element.specs.Elements.{version}
use Rattle.osm_element.specs.declared.elements.Elements.{Elements}
use Rattle.osm_change.specs.declared.answers.ChangesetRow.{ChangesetRow}
use Rattle.osm_change.specs.declared.reads.VersionId.{VersionId}
use Rattle.osm_change.specs.declared.refusals.Refusal.{Refusal}
use Rattle.osm_change.specs.declared.refusals.Refusal.TheVariants.{NoChangeset}
use Rattle.changeset_core.specs.Changeset.{is_open}
use Rattle.changeset_core.specs.declared.records.ChangesetRecord.{ChangesetRecord}
use Rattle.changeset_core.specs.declared.records.Work.{Work}
use Rattle.rising_lists.specs.Ids.{ids_to}
use Rattle.osm_model.specs.Changeset.{changeset_row}
use Rattle.osm_model.specs.Reads.{shown}
use Rattle.osm_model.specs.State.{changeset}
use Rattle.osm_model.specs.declared.states.State.{State}

-- a changeset as it is at a stamp
abbrev pub read_changeset : State → ℕ → ℕ → Result ChangesetRow Refusal
read_changeset P t c = option_map_or (λ r. Ok (changeset_row c r t)) (changeset P c) (Err (NoChangeset c))

-- ---- the query

-- a changeset that touched nothing has no box, and meets none
abbrev pub touches : Area → ChangesetRecord → Bool
touches a r = option_map_or (areas_meet a) r.touched false

-- each filter that is named passes the changeset
abbrev pub passes : Option ℕ → Bool → Bool → Option Area → ℕ → ChangesetRecord → Bool
passes user only_open only_closed within t r =
    option_map_or (λ u. r.owner.id == u) user true
    && ((not only_open || is_open r t) && ((not only_closed || not (is_open r t)) && option_map_or (λ a. touches a r) within true))

abbrev pub passes_at : State → (ChangesetRecord → Bool) → ℕ → Bool
passes_at P pass c = option_map_or pass (changeset P c) false

-- the newest first, and no more than the limit
abbrev pub newest : State → (ChangesetRecord → Bool) → List ℕ
newest P pass = take QUERY_LIMIT (filter (passes_at P pass) (reverse (ids_to (length P.changesets))))

abbrev pub row_at : State → ℕ → ℕ → Option ChangesetRow
row_at P t c = option_map (λ r. changeset_row c r t) (changeset P c)

abbrev pub query_changesets : State → ℕ → Option ℕ → Bool → Bool → Option Area → List ChangesetRow
query_changesets P t user only_open only_closed within =
    filter_map (row_at P t) (newest P (passes user only_open only_closed within t))

-- ---- the download

-- a version without a mark
abbrev pub is_unmarked : Elements → Work → Bool
is_unmarked E w = option_map_or (λ v. not (is_some v.redaction)) (version E w.key w.version) false

-- the versions that a changeset made, in that order, without marked ones
abbrev pub download : State → ℕ → Result (List VersionId) Refusal
download P c =
    option_map_or (λ r. Ok (map (λ w. shown w.key w.version) (filter (is_unmarked P.elements) r.did))) (changeset P c) (Err (NoChangeset c))
