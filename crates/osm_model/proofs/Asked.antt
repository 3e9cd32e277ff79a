-- Every moment that a query is told on a timely map has a text.
use Rattle.std.proofs.Common.{◌≡◌, ℕ, Bool, true, false, List, [], ◌∷◌, Some, None, Ok, Err, refl, arith}
use Rattle.std.specs.Prelude.{Option, Result, All, ◌==◌, map, filter, option_map, option_and_then, if◌then◌else◌}
use Rattle.std.specs.List.{cons_option, filter_map}
use Rattle.std.specs.Option.{option_map_or, IfSome}
use Rattle.std.proofs.lemmas.List.Elements.{All-cons}
use Rattle.osm_base.specs.Place.{Area}
use Rattle.osm_base.specs.Stamp.{stamp_after}
use Rattle.osm_base.specs.declared.keys.Key.{Key}
use Rattle.osm_element.specs.Elements.{version}
use Rattle.osm_element.specs.Version.{Version}
use Rattle.osm_change.specs.Moments.{HasShownStamp, HasShownLife, RefusalHasShownEnd, HasShownMoments}
use Rattle.osm_change.specs.Reads.{not_found, read_refusal}
use Rattle.osm_change.specs.declared.answers.ElementRow.{ElementRow}
use Rattle.osm_change.specs.declared.reads.MapFault.{MapFault}
use Rattle.osm_change.specs.declared.reads.MapFault.TheVariants as unmapped
use Rattle.osm_change.specs.declared.reads.ReadFault.{ReadFault}
use Rattle.osm_change.specs.declared.reads.ReadFault.TheVariants as unread
use Rattle.osm_change.specs.declared.reads.Selection.{Selection}
use Rattle.osm_change.specs.declared.reads.VersionId.{VersionId}
use Rattle.osm_change.specs.declared.refusals.Refusal.TheVariants as refused
use Rattle.osm_change.specs.declared.refusals.Said.TheVariants.{Id}
use Rattle.changeset_core.specs.Timely.{IsTimelyRecord}
use Rattle.changeset_core.specs.declared.records.ChangesetRecord.{ChangesetRecord}
use Rattle.osm_model.specs.declared.queries.Query.{Query}
use Rattle.osm_model.specs.declared.queries.Query.TheVariants as query
use Rattle.osm_model.specs.declared.states.State.{State}
use Rattle.osm_model.specs.Ask.{element_row, element_rows, map_refusal, one_answer, read_answer, map_answer, past_map_answer, changeset_answer, download_answer, ask}
use Rattle.osm_model.specs.Past.{one_at, full_at}
use Rattle.osm_model.specs.PastMap.{map_at}
use Rattle.osm_model.specs.Changeset.{changeset_row}
use Rattle.osm_model.specs.ChangesetReads.{read_changeset, row_at, newest, passes, is_unmarked, download}
use Rattle.osm_model.specs.Reads.{shown, one, numbered, history_of, many, full, ways_of, relations_of}
use Rattle.osm_model.specs.Selection.{map_of, selected}
use Rattle.osm_model.specs.State.{changeset}
use Rattle.osm_model.specs.Timely.{HasTimelyStamp, IsTimely}
use Rattle.osm_model.proofs.Advances.{changeset-all}
use Rattle.osm_model.proofs.Told.{row_shown}

none_of : {X : Type 0} (P : X → Type 0) → All P []
none_of P k d within = absurd (omega (arith, within))

all_with : {X : Type 0} (P : X → Type 0) (o : Option X) (xs : List X) → IfSome o P → All P xs → All P (cons_option o xs)
all_with P None xs first rest = rest
all_with P (Some x) xs first rest = All-cons P x xs first rest

-- ---- rows of elements

element_shown : (P : State) (s : VersionId) → IsTimely P → IfSome (element_row P s) HasShownStamp
element_shown P s timely = of_version (version P.elements s.key s.number) refl
  where
    row_of : Version → ChangesetRecord → ElementRow
    row_of v r = record { key = s.key; number = s.number; version = v; owner = r.owner }

    of_owner : (v : Version) → HasTimelyStamp v → (o : Option ChangesetRecord) → IfSome (option_map (row_of v) o) HasShownStamp
    of_owner v at None = tt
    of_owner v at (Some r) = omega (arith, at)

    of_version : (o : Option Version) → version P.elements s.key s.number ≡ o → IfSome (option_and_then (λ v. option_map (row_of v) (changeset P v.changeset)) o) HasShownStamp
    of_version None found = tt
    of_version (Some v) found = of_owner v (timely.versions.each s.key s.number v found) (changeset P v.changeset)

rows_shown : (P : State) (ss : List VersionId) → IsTimely P → All HasShownStamp (element_rows P ss)
rows_shown P [] timely = none_of HasShownStamp
rows_shown P (s ∷ ss) timely = all_with HasShownStamp (element_row P s) (element_rows P ss) (element_shown P s timely) (rows_shown P ss timely)

-- ---- refusals tell no moment

not_found_shown : (k : Key) (n : ℕ) → RefusalHasShownEnd (not_found k n)
not_found_shown k n = by_test (n == 0)
  where
    by_test : (b : Bool) → RefusalHasShownEnd (if b then refused.NoElement (Id k.id) None k.kind else refused.NoSuchVersion (Id k.id) k.kind n)
    by_test true = tt
    by_test false = tt

read_refusal_shown : (f : ReadFault) → RefusalHasShownEnd (read_refusal f)
read_refusal_shown (unread.NotFound k n) = not_found_shown k n
read_refusal_shown (unread.Gone k n) = tt
read_refusal_shown (unread.Redacted k n r) = tt
read_refusal_shown unread.Memory = tt

map_refusal_shown : (f : MapFault) → RefusalHasShownEnd (map_refusal f)
map_refusal_shown (unmapped.TooLarge area) = tt
map_refusal_shown (unmapped.TooMany nodes) = tt
map_refusal_shown unmapped.Memory = tt

-- ---- answers

one_shown : (P : State) (r : Result VersionId ReadFault) → IsTimely P → HasShownMoments (one_answer P r)
one_shown P (Ok s) timely = rows_shown P (s ∷ []) timely
one_shown P (Err f) timely = read_refusal_shown f

read_shown : (P : State) (r : Result (List VersionId) ReadFault) → IsTimely P → HasShownMoments (read_answer P r)
read_shown P (Ok ss) timely = rows_shown P ss timely
read_shown P (Err f) timely = read_refusal_shown f

map_shown : (P : State) (a : Area) (r : Result Selection MapFault) → IsTimely P → HasShownMoments (map_answer P a r)
map_shown P a (Ok S) timely = rows_shown P (selected P.elements S) timely
map_shown P a (Err f) timely = map_refusal_shown f

past_map_shown : (P : State) (a : Area) (r : Result (List VersionId) MapFault) → IsTimely P → HasShownMoments (past_map_answer P a r)
past_map_shown P a (Ok ss) timely = rows_shown P ss timely
past_map_shown P a (Err f) timely = map_refusal_shown f

changeset_shown : (P : State) (c t : ℕ) → IsTimely P → HasShownMoments (changeset_answer (read_changeset P t c))
changeset_shown P c t timely = of_record (changeset P c) refl
  where
    of_record : (o : Option ChangesetRecord) → changeset P c ≡ o → HasShownMoments (changeset_answer (option_map_or (λ r. Ok (changeset_row c r t)) o (Err (refused.NoChangeset c))))
    of_record None found = tt
    of_record (Some r) found = row_shown c t r (changeset-all IsTimelyRecord P c r timely.changesets found)

row_at_shown : (P : State) (t c : ℕ) → IsTimely P → IfSome (row_at P t c) HasShownLife
row_at_shown P t c timely = of_record (changeset P c) refl
  where
    of_record : (o : Option ChangesetRecord) → changeset P c ≡ o → IfSome (option_map (λ r. changeset_row c r t) o) HasShownLife
    of_record None found = tt
    of_record (Some r) found = row_shown c t r (changeset-all IsTimelyRecord P c r timely.changesets found)

changesets_shown : (P : State) (t : ℕ) (ids : List ℕ) → IsTimely P → All HasShownLife (filter_map (row_at P t) ids)
changesets_shown P t [] timely = none_of HasShownLife
changesets_shown P t (c ∷ ids) timely =
    all_with HasShownLife (row_at P t c) (filter_map (row_at P t) ids) (row_at_shown P t c timely) (changesets_shown P t ids timely)

download_shown : (P : State) (c : ℕ) → IsTimely P → HasShownMoments (download_answer P (download P c))
download_shown P c timely = of_record (changeset P c)
  where
    works : ChangesetRecord → List VersionId
    works r = map (λ w. shown w.key w.version) (filter (is_unmarked P.elements) r.did)

    of_record : (o : Option ChangesetRecord) → HasShownMoments (download_answer P (option_map_or (λ r. Ok (works r)) o (Err (refused.NoChangeset c))))
    of_record None = tt
    of_record (Some r) = rows_shown P (works r) timely

pub ask_shown : (P : State) (moment : ℕ) (q : Query) → IsTimely P → HasShownMoments (ask P moment q)
ask_shown P m (query.Changeset c) timely = changeset_shown P c (stamp_after P.last m) timely
ask_shown P m (query.Changesets user only_open only_closed within) timely =
    changesets_shown P (stamp_after P.last m) (newest P (passes user only_open only_closed within (stamp_after P.last m))) timely
ask_shown P m (query.Download c) timely = download_shown P c timely
ask_shown P m (query.Map a) timely = map_shown P a (map_of P.elements a) timely
ask_shown P m (query.One k) timely = one_shown P (one P.elements k) timely
ask_shown P m (query.Numbered k n show) timely = one_shown P (numbered P.elements k n show) timely
ask_shown P m (query.History k show) timely = read_shown P (history_of P.elements k show) timely
ask_shown P m (query.Many kind ids) timely = read_shown P (many P.elements kind ids) timely
ask_shown P m (query.Full k) timely = read_shown P (full P.elements k) timely
ask_shown P m (query.OneAt k at) timely = one_shown P (one_at P k at) timely
ask_shown P m (query.FullAt k at) timely = read_shown P (full_at P k at) timely
ask_shown P m (query.MapAt a at) timely = past_map_shown P a (map_at P a at) timely
ask_shown P m (query.WaysOf id) timely = rows_shown P (ways_of P.elements id) timely
ask_shown P m (query.RelationsOf k) timely = rows_shown P (relations_of P.elements k) timely
