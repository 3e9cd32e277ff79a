-- Which call of the notes a method and a target ask for (OpenStreetMap wiki, API v0.6, "Map notes API").
use Rattle.std.specs.Prelude.{ℕ, ◌==◌, List, length, take, drop, codes, Option, Some, None, option_and_then, Result, Ok, Err, if◌then◌else◌}
use Rattle.std.specs.Str.{bytes_eq}
use Rattle.osm_base.specs.Number.{number_of}
use Rattle.osm_base.specs.Outcome.{◌>>=◌}
use Rattle.osm_base.specs.Parts.{parted}
use Rattle.route_table.specs.Calls.{or_fault}
use Rattle.route_table.specs.Parameters.{needed, flag, area_in}
use Rattle.route_table.specs.Targets.{path_of, query_of}
use Rattle.route_table.specs.declared.faults.RouteFault.{RouteFault}
use Rattle.route_table.specs.declared.faults.RouteFault.TheVariants as fault
use Rattle.notes_core.specs.declared.commands.NoteQuery.{NoteQuery}
use Rattle.notes_core.specs.declared.commands.NoteQuery.TheVariants as query
use Rattle.notes_desk.specs.declared.calls.NoteCall.{NoteCall}
use Rattle.notes_desk.specs.declared.calls.NoteCall.TheVariants.{Read, Write}
use Rattle.notes_desk.specs.declared.calls.NoteEdit.TheVariants as edit
use Rattle.notes_desk.specs.declared.places.NotePlace.{NotePlace}
use Rattle.notes_desk.specs.declared.places.NotePlace.TheVariants as place

-- ---- paths: a part in braces stands for one byte or more without a slash

-- what stands behind a beginning
abbrev pub behind : List ℕ → List ℕ → Option (List ℕ)
behind front text = if bytes_eq (take (length front) text) front then Some (drop (length front) text) else None

-- what a path is a path of, and the part that names the note
abbrev pub Route : Type 0
Route = NotePlace × List ℕ

abbrev pub place_named : List ℕ → Option NotePlace
place_named word =
    if bytes_eq word (codes "comment") then Some place.Comment
    else if bytes_eq word (codes "close") then Some place.Closing
    else if bytes_eq word (codes "reopen") then Some place.Reopening
    else None

abbrev pub with_id : List ℕ → NotePlace → Option Route
with_id id where_to = if length id == 0 then None else Some (where_to, id)

abbrev pub at_parts : List ℕ → Option (List ℕ × List ℕ) → Option Route
at_parts rest None = with_id rest place.Note
at_parts rest (Some part) = option_and_then (with_id part.0) (place_named part.1)

-- below `notes/`: `{id}`, or `{id}` with one of three words behind
abbrev pub below : List ℕ → Option Route
below rest = at_parts rest (parted 47 rest)

abbrev pub at_rest : List ℕ → Option Route
at_rest rest = if length rest == 0 then Some (place.All, rest) else option_and_then below (behind (codes "/") rest)

abbrev pub route_at : List ℕ → Option Route
route_at path = option_and_then at_rest (behind (codes "/api/0.6/notes") path)

-- ---- calls

abbrev pub id_in : List ℕ → Result ℕ RouteFault
id_in id = or_fault (number_of id) fault.BadNumber

-- the parameters are read in this order
abbrev pub search_of : Option (List ℕ) → Result NoteQuery RouteFault
search_of q = do
  within ← needed area_in (codes "bbox") q
  closed ← flag (codes "closed") q
  Ok (query.Within within closed)

abbrev pub get_call : NotePlace → List ℕ → Option (List ℕ) → Result NoteCall RouteFault
get_call place.All id q = search_of q >>= λ asked. Ok (Read asked)
get_call place.Note id q = id_in id >>= λ n. Ok (Read (query.One n))
get_call place.Comment id q = Err fault.WrongMethod
get_call place.Closing id q = Err fault.WrongMethod
get_call place.Reopening id q = Err fault.WrongMethod

abbrev pub post_call : NotePlace → List ℕ → Result NoteCall RouteFault
post_call place.All id = Ok (Write edit.Open)
post_call place.Note id = Err fault.WrongMethod
post_call place.Comment id = id_in id >>= λ n. Ok (Write (edit.Comment n))
post_call place.Closing id = id_in id >>= λ n. Ok (Write (edit.Close n))
post_call place.Reopening id = id_in id >>= λ n. Ok (Write (edit.Reopen n))

-- methods are compared exactly
abbrev pub call_at : Route → List ℕ → Option (List ℕ) → Result NoteCall RouteFault
call_at route method q =
    if bytes_eq method (codes "GET") then get_call route.0 route.1 q
    else if bytes_eq method (codes "POST") then post_call route.0 route.1
    else Err fault.WrongMethod

-- the call of a request line, or the first cause for which there is none
unfoldable pub call_of : List ℕ → List ℕ → Result NoteCall RouteFault
call_of method target = do
  path ← or_fault (path_of target) fault.NoPath
  route ← or_fault (route_at path) fault.NoPath
  call_at route method (query_of target)
