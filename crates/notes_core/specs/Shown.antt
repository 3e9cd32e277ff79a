-- Notes and refusals as data, and the bytes of answers. Members stand in the byte order of their names.
use Rattle.std.specs.Prelude.{ℕ, ◌/◌, ◌%◌, List, [], ◌∷◌, Option, Some, None, Result, Ok, Err, codes, flat_map}
use Rattle.serde_json.specs.Data.{Data, string}
use Rattle.serde_json.specs.Written.{compact_text}
use Rattle.osm_base.specs.declared.limits.TheConstants.{COMMENT_LIMIT}
use Rattle.osm_base.specs.declared.people.Owner.{Owner}
use Rattle.osm_json.specs.Shown.{Field, field, field_if, record_of, list_of, natural, integer, moment, document}
use Rattle.notes_core.specs.Act.{Effect}
use Rattle.notes_core.specs.Search.{Numbered}
use Rattle.notes_core.specs.declared.limits.TheConstants.{NOTES_AREA_LIMIT}
use Rattle.notes_core.specs.declared.notes.Note.{Note}
use Rattle.notes_core.specs.declared.notes.NoteAction.{NoteAction}
use Rattle.notes_core.specs.declared.notes.NoteAction.TheVariants as action
use Rattle.notes_core.specs.declared.notes.NoteComment.{NoteComment}
use Rattle.notes_core.specs.declared.notes.NoteRefusal.{NoteRefusal}
use Rattle.notes_core.specs.declared.notes.NoteRefusal.TheVariants as refused

-- ---- notes

abbrev pub action_name : NoteAction → List ℕ
action_name action.Opened = codes "opened"
action_name action.Commented = codes "commented"
action_name action.Closed = codes "closed"
action_name action.Reopened = codes "reopened"

-- `uid` and `user` are there where the caller is known
unfoldable pub comment_data : NoteComment → Data
comment_data c = record_of (
    field (codes "action") (string (action_name c.action))
    ∷ field (codes "date") (moment c.stamp)
    ∷ field (codes "text") (string c.text)
    ∷ field_if (codes "uid") (λ (o : Owner). natural o.id) c.caller
    ∷ field_if (codes "user") (λ (o : Owner). string o.name) c.caller ∷ [])

abbrev pub status_name : Option ℕ → List ℕ
status_name None = codes "open"
status_name (Some at) = codes "closed"

-- what stands behind the comments
unfoldable pub life_fields : ℕ → Note → List Field
life_fields id n =
    field (codes "date_created") (moment n.created)
    ∷ field (codes "id") (natural id)
    ∷ field (codes "lat7") (integer n.at.lat7)
    ∷ field (codes "lon7") (integer n.at.lon7)
    ∷ field (codes "status") (string (status_name n.closed)) ∷ []

unfoldable pub note_data : ℕ → Note → Data
note_data id n = record_of (
    field_if (codes "closed_at") moment n.closed
    ∷ field (codes "comments") (list_of comment_data n.comments)
    ∷ life_fields id n)

abbrev pub row_data : Numbered → Data
row_data r = note_data r.id r.note

-- ---- refusals (RFC 9110, section 15)

abbrev pub refusal_status : NoteRefusal → ℕ
refusal_status (refused.NoNote id) = 404
refusal_status (refused.NoteClosed at id) = 409
refusal_status (refused.NoteOpen id) = 409
refusal_status (refused.NoteFull id) = 409
refusal_status (refused.NotesArea area) = 400

unfoldable pub refusal_data : NoteRefusal → Data
refusal_data (refused.NoNote id) = record_of (field (codes "error") (string (codes "no_note")) ∷ field (codes "id") (natural id) ∷ [])
refusal_data (refused.NoteClosed at id) = record_of (
    field (codes "closed_at") (moment at)
    ∷ field (codes "error") (string (codes "note_closed"))
    ∷ field (codes "id") (natural id) ∷ [])
refusal_data (refused.NoteOpen id) = record_of (field (codes "error") (string (codes "note_open")) ∷ field (codes "id") (natural id) ∷ [])
refusal_data (refused.NoteFull id) = record_of (
    field (codes "error") (string (codes "note_full"))
    ∷ field (codes "id") (natural id)
    ∷ field (codes "limit") (natural COMMENT_LIMIT) ∷ [])
refusal_data (refused.NotesArea area) = record_of (
    field (codes "area") (natural area)
    ∷ field (codes "error") (string (codes "notes_area"))
    ∷ field (codes "limit") (natural NOTES_AREA_LIMIT) ∷ [])

-- ---- answers: the two bytes of the status, high byte first, and then the body

abbrev pub answer_bytes : ℕ → Data → List ℕ
answer_bytes status body = (status / 256) ∷ (status % 256) ∷ compact_text body

abbrev pub refusal_bytes : NoteRefusal → List ℕ
refusal_bytes r = answer_bytes (refusal_status r) (refusal_data r)

abbrev pub note_bytes : ℕ → Note → List ℕ
note_bytes id n = answer_bytes 200 (document (codes "note") (note_data id n))

abbrev pub notes_bytes : List Numbered → List ℕ
notes_bytes rows = answer_bytes 200 (document (codes "notes") (list_of row_data rows))

-- a command is answered the note that it leaves
abbrev pub effect_bytes : Result Effect NoteRefusal → List ℕ
effect_bytes (Ok done) = note_bytes done.id done.note
effect_bytes (Err r) = refusal_bytes r

abbrev pub one_bytes : ℕ → Result Note NoteRefusal → List ℕ
one_bytes id (Ok n) = note_bytes id n
one_bytes id (Err r) = refusal_bytes r

abbrev pub found_bytes : (ℕ → List Numbered) → Result (List ℕ) NoteRefusal → List ℕ
found_bytes numbered (Ok ids) = notes_bytes (flat_map numbered ids)
found_bytes numbered (Err r) = refusal_bytes r
