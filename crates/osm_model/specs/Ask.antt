-- What a query is answered.
use Rattle.std.specs.Prelude.{ℕ, List, [], ◌∷◌, filter_map, Option, Some, None, option_and_then, option_map, Result, Ok, Err}
use Rattle.osm_base.specs.Place.{Area}
use Rattle.osm_base.specs.Stamp.{stamp_after}
use Rattle.osm_base.specs.declared.limits.TheConstants.{AREA_LIMIT, MAP_NODE_LIMIT}
use Rattle.osm_element.specs.Elements.{version}
use Rattle.osm_change.specs.Reads.{read_refusal}
use Rattle.osm_change.specs.declared.answers.Answer.{Answer}
use Rattle.osm_change.specs.declared.answers.Answer.TheVariants as answer
use Rattle.osm_change.specs.declared.answers.ChangesetRow.{ChangesetRow}
use Rattle.osm_change.specs.declared.answers.ElementRow.{ElementRow}
use Rattle.osm_change.specs.declared.reads.MapFault.{MapFault}
use Rattle.osm_change.specs.declared.reads.MapFault.TheVariants as unmapped
use Rattle.osm_change.specs.declared.reads.ReadFault.{ReadFault}
use Rattle.osm_change.specs.declared.reads.Selection.{Selection}
use Rattle.osm_change.specs.declared.reads.VersionId.{VersionId}
use Rattle.osm_change.specs.declared.refusals.Refusal.{Refusal}
use Rattle.osm_change.specs.declared.refusals.Refusal.TheVariants as refused
use Rattle.osm_model.specs.declared.queries.Query.{Query}
use Rattle.osm_model.specs.declared.queries.Query.TheVariants as query
use Rattle.osm_model.specs.declared.states.State.{State}
use Rattle.osm_model.specs.ChangesetReads.{read_changeset, query_changesets, download}
use Rattle.osm_model.specs.Past.{one_at, full_at}
use Rattle.osm_model.specs.PastMap.{map_at}
use Rattle.osm_model.specs.Reads.{one, numbered, history_of, many, full, ways_of, relations_of}
use Rattle.osm_model.specs.Selection.{map_of, selected}
use Rattle.osm_model.specs.State.{changeset}

-- ---- rows of elements

-- a version with the owner of its changeset, where both are there
abbrev pub element_row : State → VersionId → Option ElementRow
element_row P s =
    option_and_then
    (λ v. option_map (λ r. record { key = s.key; number = s.number; version = v; owner = r.owner }) (changeset P v.changeset))
    (version P.elements s.key s.number)

abbrev pub element_rows : State → List VersionId → List ElementRow
element_rows P ss = filter_map (element_row P) ss

-- ---- refusals

-- No definition gives want of memory.
abbrev pub map_refusal : MapFault → Refusal
map_refusal (unmapped.TooLarge area) = refused.MapArea area AREA_LIMIT
map_refusal (unmapped.TooMany nodes) = refused.MapNodes MAP_NODE_LIMIT nodes
map_refusal unmapped.Memory = refused.NoPath

-- ---- answers

abbrev pub elements_answer : State → List VersionId → Answer
elements_answer P ss = answer.Elements None (element_rows P ss)

abbrev pub read_answer : State → Result (List VersionId) ReadFault → Answer
read_answer P (Ok ss) = elements_answer P ss
read_answer P (Err fault) = answer.Refused (read_refusal fault)

abbrev pub one_answer : State → Result VersionId ReadFault → Answer
one_answer P (Ok s) = elements_answer P (s ∷ [])
one_answer P (Err fault) = answer.Refused (read_refusal fault)

-- the map is answered with its box
abbrev pub map_answer : State → Area → Result Selection MapFault → Answer
map_answer P a (Ok S) = answer.Elements (Some a) (element_rows P (selected P.elements S))
map_answer P a (Err fault) = answer.Refused (map_refusal fault)

-- so is the map of an earlier stamp
abbrev pub past_map_answer : State → Area → Result (List VersionId) MapFault → Answer
past_map_answer P a (Ok ss) = answer.Elements (Some a) (element_rows P ss)
past_map_answer P a (Err fault) = answer.Refused (map_refusal fault)

abbrev pub changeset_answer : Result ChangesetRow Refusal → Answer
changeset_answer (Ok row) = answer.Changeset row
changeset_answer (Err r) = answer.Refused r

abbrev pub download_answer : State → Result (List VersionId) Refusal → Answer
download_answer P (Ok ss) = answer.Change (element_rows P ss)
download_answer P (Err r) = answer.Refused r

-- what a query is answered at a stamp
abbrev pub ask_at : State → ℕ → Query → Answer
ask_at P t (query.Changeset c) = changeset_answer (read_changeset P t c)
ask_at P t (query.Changesets user only_open only_closed within) = answer.Changesets (query_changesets P t user only_open only_closed within)
ask_at P t (query.Download c) = download_answer P (download P c)
ask_at P t (query.Map within) = map_answer P within (map_of P.elements within)
ask_at P t (query.One k) = one_answer P (one P.elements k)
ask_at P t (query.Numbered k n show) = one_answer P (numbered P.elements k n show)
ask_at P t (query.History k show) = read_answer P (history_of P.elements k show)
ask_at P t (query.Many kind ids) = read_answer P (many P.elements kind ids)
ask_at P t (query.Full k) = read_answer P (full P.elements k)
ask_at P t (query.OneAt k at) = one_answer P (one_at P k at)
ask_at P t (query.FullAt k at) = read_answer P (full_at P k at)
ask_at P t (query.MapAt within at) = past_map_answer P within (map_at P within at)
ask_at P t (query.WaysOf id) = elements_answer P (ways_of P.elements id)
ask_at P t (query.RelationsOf k) = elements_answer P (relations_of P.elements k)

-- a query counts the moment as a command does
abbrev pub ask : State → ℕ → Query → Answer
ask P moment q = ask_at P (stamp_after P.last moment) q
