-- The command that a call on notes and its body ask for.
use Rattle.std.specs.Prelude.{◌≡◌, ⊤, ℕ, ℤ, Bool, ◌&&◌, ◌==◌, nat_le, List, [], length, codes, Option, Some, None, Result, Ok, Err, if◌then◌else◌}
use Rattle.std.specs.Str.{chars}
use Rattle.serde_json.specs.Data.{Data}
use Rattle.serde_json.specs.Find.{as_str}
use Rattle.serde_json.specs.View.{view}
use Rattle.serde_json.specs.declared.value.Value.{Value}
use Rattle.osm_base.specs.Outcome.{◌>>=◌}
use Rattle.osm_base.specs.Place.{Position, is_position}
use Rattle.osm_element.specs.declared.faults.LocalFault.TheVariants as local
use Rattle.osm_change.specs.declared.refusals.Refusal.{Refusal}
use Rattle.osm_change.specs.declared.refusals.Refusal.TheVariants as refusals
use Rattle.osm_json.specs.Reading.{data_of, in_json, or_shape, needed, only_if, integer_of}
use Rattle.osm_json.specs.Reading.{◌>>=◌ as and_then}
use Rattle.osm_json.specs.declared.fault.BodyFault.{BodyFault}
use Rattle.osm_json.specs.declared.fault.BodyFault.TheVariants.{NotJson, Shape, Memory}
use Rattle.notes_core.specs.declared.commands.NoteCommand.{NoteCommand}
use Rattle.notes_core.specs.declared.commands.NoteCommand.TheVariants as command
use Rattle.desk_parts.specs.Faults.{or_refused, of_body}
use Rattle.notes_desk.specs.declared.calls.NoteEdit.{NoteEdit}
use Rattle.notes_desk.specs.declared.calls.NoteEdit.TheVariants as edit
use Rattle.notes_desk.specs.declared.limits.TheConstants.{NOTE_TEXT_LIMIT}

-- ---- texts

-- of so many characters at least, and 2,000 at most
abbrev pub is_fit : ℕ → List ℕ → Bool
is_fit least text = nat_le least (length (chars text)) && nat_le (length (chars text)) NOTE_TEXT_LIMIT

abbrev pub text_of : ℕ → Data → Option (List ℕ)
text_of least d = and_then (needed (codes "text") as_str d) (λ text. only_if (is_fit least text) text)

abbrev pub text_in : ℕ → List ℕ → Result (List ℕ) BodyFault
text_in least body = in_json (λ d. or_shape 0 (text_of least d)) (data_of body)

-- on closing the text may be empty, and the body too
abbrev pub last_text_in : List ℕ → Result (List ℕ) BodyFault
last_text_in body = if length body == 0 then Ok [] else text_in 0 body

-- ---- what opens a note

-- a latitude, a longitude and a text
abbrev pub opening_of : Data → Option (ℤ × ℤ × List ℕ)
opening_of d =
    and_then (needed (codes "lat7") integer_of d) (λ lat7.
    and_then (needed (codes "lon7") integer_of d) (λ lon7.
    and_then (text_of 1 d) (λ text. Some (lat7, lon7, text))))

abbrev pub opening_in : List ℕ → Result (ℤ × ℤ × List ℕ) BodyFault
opening_in body = in_json (λ d. or_shape 0 (opening_of d)) (data_of body)

-- the position, where it lies on the globe
abbrev pub position_of : ℤ → ℤ → Result Position Refusal
position_of lat7 lon7 =
    if is_position lat7 lon7 then Ok (record { lat7 = lat7; lon7 = lon7 }) else Err (refusals.Local local.Position (Some 0))

-- ---- commands

unfoldable pub open_in : List ℕ → Result NoteCommand Refusal
open_in body = do
  opening ← or_refused of_body (opening_in body)
  position ← position_of opening.0 opening.1
  Ok (command.OpenNote position opening.2)

abbrev pub command_of : NoteEdit → List ℕ → Result NoteCommand Refusal
command_of edit.Open body = open_in body
command_of (edit.Comment id) body = or_refused of_body (text_in 1 body) >>= λ text. Ok (command.Comment id text)
command_of (edit.Close id) body = or_refused of_body (last_text_in body) >>= λ text. Ok (command.CloseNote id text)
command_of (edit.Reopen id) body = or_refused of_body (text_in 1 body) >>= λ text. Ok (command.Reopen id text)

-- ---- for private clauses

-- the value is the data that was read, or there is none
abbrev pub Reads : Result Value BodyFault → Option Data → Type 0
Reads (Ok value) read = read ≡ Some (view value)
Reads (Err Memory) read = ⊤
Reads (Err NotJson) read = read ≡ None
Reads (Err (Shape op)) read = ⊥
