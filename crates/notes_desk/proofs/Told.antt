-- What notes answer tells a status.
use Rattle.std.proofs.Common.{◌≡◌, ℕ, ◌⊎◌, inl, inr, List, take, flat_map, refl, sym, subst, Option, Some, None, Result, Ok, Err, codes, arith}
use Rattle.osm_base.specs.Stamp.{stamp_after}
use Rattle.serde_json.specs.Written.{compact_text}
use Rattle.osm_json.specs.Shown.{document, list_of}
use Rattle.machine_law.specs.Rules.{replay}
use Rattle.session_desk.specs.Rows.{Place, RefusesCommand, AcceptsCommand, LacksMemory, IsOwed, AnswersQuery, IsRow}
use Rattle.session_desk.specs.Steps.{place_at, Answers}
use Rattle.notes_core.specs.Act.{Effect, judge, known}
use Rattle.notes_core.specs.Machine.{note_rules}
use Rattle.notes_core.specs.Search.{Numbered, found, numbered}
use Rattle.notes_core.specs.Shown.{note_data, row_data, refusal_data, refusal_status, refusal_bytes, effect_bytes, one_bytes, found_bytes}
use Rattle.notes_core.specs.declared.commands.NoteAsked.{NoteAsked}
use Rattle.notes_core.specs.declared.commands.NoteEntry.{NoteEntry}
use Rattle.notes_core.specs.declared.commands.NoteQuery.{NoteQuery}
use Rattle.notes_core.specs.declared.commands.NoteQuery.TheVariants.{One, Within}
use Rattle.notes_core.specs.declared.notes.Note.{Note}
use Rattle.notes_core.specs.declared.notes.NoteRefusal.{NoteRefusal}
use Rattle.notes_core.specs.declared.notes.NoteRefusal.TheVariants as refused
use Rattle.notes_core.specs.declared.notes.Notes.{Notes}
use Rattle.osm_base.specs.Status.{IsStatus}
use Rattle.snapshot_hub.specs.Known.{Known}
use Rattle.desk_parts.specs.Replies.{TellsStatus}
use Rattle.notes_desk.specs.Request.{shown_request}
use Rattle.notes_desk.specs.declared.requests.NoteRequest.{NoteRequest}
use Rattle.notes_desk.specs.declared.requests.NoteRequest.TheVariants.{Change, Read}

-- ---- answers

listed : (r : NoteRefusal) → IsStatus (refusal_status r)
listed (refused.NoNote id) = refl
listed (refused.NoteClosed at id) = refl
listed (refused.NoteOpen id) = refl
listed (refused.NoteFull id) = refl
listed (refused.NotesArea area) = refl

refusal_tells : (r : NoteRefusal) → TellsStatus (refusal_bytes r)
refusal_tells r = record { status = refusal_status r; body = compact_text (refusal_data r); listed = listed r; bytes_are = refl }

effect_tells : (judged : Result Effect NoteRefusal) → TellsStatus (effect_bytes judged)
effect_tells (Ok done) = record { status = 200; body = compact_text (document (codes "note") (note_data done.id done.note)); listed = refl; bytes_are = refl }
effect_tells (Err r) = refusal_tells r

one_tells : (id : ℕ) (found : Result Note NoteRefusal) → TellsStatus (one_bytes id found)
one_tells id (Ok n) = record { status = 200; body = compact_text (document (codes "note") (note_data id n)); listed = refl; bytes_are = refl }
one_tells id (Err r) = refusal_tells r

found_tells : (rows : ℕ → List Numbered) (ids : Result (List ℕ) NoteRefusal) → TellsStatus (found_bytes rows ids)
found_tells rows (Ok ids) = record { status = 200; body = compact_text (document (codes "notes") (list_of row_data (flat_map rows ids))); listed = refl; bytes_are = refl }
found_tells rows (Err r) = refusal_tells r

-- ---- rows

some_same : (xs ys : List ℕ) → ◌≡◌ {A = Option (List ℕ)} (Some xs) (Some ys) → xs ≡ ys
some_same xs ys same = cc

tells_as : (bytes other : List ℕ) → ◌≡◌ {A = Option (List ℕ)} (Some bytes) (Some other) → TellsStatus other → TellsStatus bytes
tells_as bytes other same tells = subst TellsStatus (sym (some_same bytes other same)) tells

nothing_tells : (bytes : List ℕ) → ◌≡◌ {A = Option (List ℕ)} (Some bytes) None → TellsStatus bytes
nothing_tells bytes none = absurd cc

acted_tells : (S : Notes) (c : NoteAsked) (m : ℕ) (bytes : List ℕ) → ◌≡◌ {A = Option (List ℕ)} (Some bytes) (Some (effect_bytes (judge S c.caller (stamp_after S.last m) c.command))) → TellsStatus bytes
acted_tells S c m bytes same = tells_as bytes (effect_bytes (judge S c.caller (stamp_after S.last m) c.command)) same (effect_tells (judge S c.caller (stamp_after S.last m) c.command))

command_tells : (F : List NoteEntry) (s : ℕ) (before after : Place) (c : NoteAsked) (m : ℕ) (bytes : List ℕ)
    → RefusesCommand note_rules F s before c m (Some bytes) after ⊎ AcceptsCommand note_rules F s before c m (Some bytes) after
    ⊎ LacksMemory before (Some bytes) after ⊎ IsOwed before (Some bytes) after
    → TellsStatus bytes
command_tells F s before after c m bytes (inl row) = acted_tells (replay note_rules (take after.point F)) c m bytes row.told
command_tells F s before after c m bytes (inr (inl row)) = acted_tells (replay note_rules (take row.at F)) c m bytes row.told
command_tells F s before after c m bytes (inr (inr (inl row))) = nothing_tells bytes row.told
command_tells F s before after c m bytes (inr (inr (inr row))) = nothing_tells bytes row.told

query_tells : (F : List NoteEntry) (before after : Place) (q : NoteQuery) (m : ℕ) (bytes : List ℕ)
    → AnswersQuery note_rules F before q m (Some bytes) after ⊎ LacksMemory before (Some bytes) after → TellsStatus bytes
query_tells F before after (One id) m bytes (inl row) =
    tells_as bytes (one_bytes id (known (replay note_rules (take after.point F)) id)) row.told (one_tells id (known (replay note_rules (take after.point F)) id))
query_tells F before after (Within within closed) m bytes (inl row) =
    let S : Notes = replay note_rules (take after.point F) in
    tells_as bytes (found_bytes (numbered S) (found S within closed)) row.told (found_tells (numbered S) (found S within closed))
query_tells F before after q m bytes (inr row) = nothing_tells bytes row.told

row_tells : (F : List NoteEntry) (s : ℕ) (before after : Place) (request : NoteRequest) (m : ℕ) (bytes : List ℕ)
    → IsRow note_rules F s before (shown_request request) m (Some bytes) after → TellsStatus bytes
row_tells F s before after (Change asked) m bytes row = command_tells F s before after asked m bytes row
row_tells F s before after (Read q) m bytes row = query_tells F before after q m bytes row

pub answer_tells : (old new : Known NoteEntry) (request : NoteRequest) (moment : ℕ) (bytes : List ℕ)
    → Answers note_rules old (shown_request request) moment (Some bytes) new → TellsStatus bytes
answer_tells old new request moment bytes answers =
    let row = answers.row 0 (omega arith) in
    row_tells new.front old.number (place_at old 0) (place_at new row.0) request moment bytes row.2
