-- What the definitions give for some messages.
use Rattle.std.proofs.Common.{◌≡◌, ℕ, true, false, List, [], ◌∷◌, pos, Option, Some, None, Ok, Err, codes, refl}
use Rattle.std.specs.Str.{is_utf8, chars}
use Rattle.percent_encoding.proofs.OnLiterals.{percent_encoding_on_literals}
use Rattle.osm_base.specs.Decimal.{area_of}
use Rattle.osm_base.specs.Place.{Area}
use Rattle.osm_change.specs.declared.refusals.Refusal.TheVariants.{NoUser, Xml, NoPath, WrongMethod, BadNumber, BadParameter, NotJson, Shape, Local}
use Rattle.osm_element.specs.declared.faults.LocalFault.TheVariants.{Position}
use Rattle.http_wire.specs.declared.message.Message.{Message}
use Rattle.session_desk.specs.Rows.Request.{Does, Reads}
use Rattle.notes_core.specs.declared.commands.NoteCommand.TheVariants.{OpenNote, CloseNote}
use Rattle.notes_core.specs.declared.commands.NoteQuery.TheVariants.{One, Within}
use Rattle.serde_json.proofs.OnLiterals.{serde_json_on_literals}
use Rattle.user_table.specs.Users.{Users}
use Rattle.notes_desk.specs.Bodies.{open_in, command_of}
use Rattle.notes_desk.specs.Request.{asked}
use Rattle.notes_desk.specs.Routes.{route_at, call_of}
use Rattle.notes_desk.specs.declared.calls.NoteEdit.TheVariants.{Open, Comment, Close}
use Rattle.notes_desk.specs.declared.places.NotePlace.TheVariants as place

abbrev users : Users
users = record {
  rows = record { token = codes "alicetoken"; user = record { id = 1; name = codes "alice"; moderator = false; limit = None } } ∷ [];
  large_from = None;
}

abbrev message : List ℕ → List ℕ → Option (List ℕ) → List ℕ → Message
message method target authorization body =
    record { method = method; target = target; close = false; authorization = authorization; media = None; body = body }

abbrev get : List ℕ → Message
get target = message (codes "GET") target None []

abbrev post : List ℕ → Option (List ℕ) → List ℕ → Message
post target authorization body = message (codes "POST") target authorization body

abbrev around : Area
around = record { left = pos 10000000; bottom = pos 20000000; right = pos 30000000; top = pos 40000000 }

abbrev alice : Option (List ℕ)
alice = Some (codes "Bearer alicetoken")

abbrev nobody_known : Option (List ℕ)
nobody_known = Some (codes "Bearer x")

-- ---- paths

one_note : route_at (codes "/api/0.6/notes/007") ≡ Some (place.Note, codes "007")
one_note = refl

reopening : route_at (codes "/api/0.6/notes/1/reopen") ≡ Some (place.Reopening, codes "1")
reopening = refl

no_id : route_at (codes "/api/0.6/notes//close") ≡ None
no_id = refl

another_word : route_at (codes "/api/0.6/notes/1/open") ≡ None
another_word = refl

longer_word : route_at (codes "/api/0.6/notesx") ≡ None
longer_word = refl

-- ---- request lines

reads_one : asked users (get (codes "/api/0.6/notes/7.json")) ≡ Ok (Reads (One 7))
unfolding asked call_of
reads_one = refl

reads_within : asked users (get (codes "/api/0.6/notes?closed=%74rue&bbox=1,2,3,4")) ≡ Ok (Reads (Within around true))
unfolding asked call_of area_of percent_encoding_on_literals
reads_within = refl

needs_a_box : asked users (get (codes "/api/0.6/notes?closed=x")) ≡ Err (BadParameter (codes "bbox"))
unfolding asked call_of percent_encoding_on_literals
needs_a_box = refl

bad_closed : asked users (get (codes "/api/0.6/notes?bbox=1,2,3,4&closed=yes")) ≡ Err (BadParameter (codes "closed"))
unfolding asked call_of area_of percent_encoding_on_literals
bad_closed = refl

no_path : asked users (get (codes "/api/0.6/note/1")) ≡ Err NoPath
unfolding asked call_of
no_path = refl

wrong_method : asked users (post (codes "/api/0.6/notes/1") alice []) ≡ Err WrongMethod
unfolding asked call_of
wrong_method = refl

-- the number is looked at after the method
bad_number : asked users (post (codes "/api/0.6/notes/0/close") nobody_known []) ≡ Err BadNumber
unfolding asked call_of
bad_number = refl

-- ---- callers

-- on every route
unknown_caller : asked users (message (codes "GET") (codes "/api/0.6/notes/1") nobody_known []) ≡ Err NoUser
unfolding asked call_of
unknown_caller = refl

nobody_closes : asked users (post (codes "/api/0.6/notes/1/close") None []) ≡ Err NoUser
unfolding asked call_of
nobody_closes = refl

-- the empty body closes without a text
alice_closes : asked users (post (codes "/api/0.6/notes/1/close") alice []) ≡ Ok (Does (record { caller = Some (record { id = 1; name = codes "alice" }); command = CloseNote 1 [] }))
unfolding asked call_of
alice_closes = refl

-- whether the body is XML is looked at before the caller
xml : asked users (post (codes "/api/0.6/notes") nobody_known (codes "<note/>")) ≡ Err Xml
unfolding asked call_of
xml = refl

-- ---- bodies

abbrev gate : List ℕ
gate = codes "{\"lat7\":481400000,\"lon7\":115400000,\"text\":\"gate locked\"}"

opened : command_of Open gate ≡ Ok (OpenNote (record { lat7 = pos 481400000; lon7 = pos 115400000 }) (codes "gate locked"))
unfolding open_in is_utf8 chars serde_json_on_literals
opened = refl

off_the_globe : command_of Open (codes "{\"lat7\":900000001,\"lon7\":0,\"text\":\"x\"}") ≡ Err (Local Position (Some 0))
unfolding open_in is_utf8 chars serde_json_on_literals
off_the_globe = refl

-- the form is looked at before the position
without_text : command_of Open (codes "{\"lat7\":900000001,\"lon7\":0,\"text\":\"\"}") ≡ Err (Shape (Some 0))
unfolding open_in is_utf8 chars serde_json_on_literals
without_text = refl

not_json : command_of (Comment 1) (codes "gate") ≡ Err NotJson
unfolding is_utf8 chars serde_json_on_literals
not_json = refl

closed_without_words : command_of (Close 1) (codes "{\"text\":\"\"}") ≡ Ok (CloseNote 1 [])
unfolding is_utf8 chars serde_json_on_literals
closed_without_words = refl

commented_without_words : command_of (Comment 1) (codes "{\"text\":\"\"}") ≡ Err (Shape (Some 0))
unfolding is_utf8 chars serde_json_on_literals
commented_without_words = refl

no_body_for_a_comment : command_of (Comment 1) [] ≡ Err NotJson
unfolding is_utf8 chars serde_json_on_literals
no_body_for_a_comment = refl
