-- The line of an entry is plain.
use Rattle.std.proofs.Common.{◌≡◌, ◌^◌, ◌<◌, ℕ, false, ℤ, pos, negsuc, List, ◌∷◌, [], codes, Option, Some, None, refl, arith}
use Rattle.std.specs.Prelude.{◌≤ℤ◌}
use Rattle.std.proofs.lemmas.Int.{ints}
use Rattle.serde_json.specs.Find.{of_integer}
use Rattle.serde_json.specs.Written.{members_text}
use Rattle.osm_base.specs.declared.people.Owner.{Owner}
use Rattle.osm_json.specs.Again.{IsShort, IsPlainData}
use Rattle.osm_json.specs.Shown.{field, field_if, members_of, natural, record_of}
use Rattle.notes_core.specs.declared.commands.NoteCommand.{NoteCommand}
use Rattle.notes_core.specs.declared.commands.NoteCommand.TheVariants.{OpenNote, Comment, CloseNote, Reopen}
use Rattle.notes_core.specs.declared.commands.NoteEntry.{NoteEntry}
use Rattle.notes_text.specs.Line.{command, user, line, line_data, entry_fields, IsCaller, IsCommand, IsEntry}

pub begins : (e : NoteEntry) → (rest : List ℕ) × (line e ≡ 123 ∷ rest)
unfolding line_data record_of
begins e = (members_text false (members_of (entry_fields e)), refl)

short : (z : ℤ) → negsuc 1799999999 ≤ℤ z → z ≤ℤ pos 1800000000 → IsShort (of_integer z)
short (pos n) low high = omega (arith, ints)
short (negsuc n) low high = omega (arith, ints)

command_plain : (c : NoteCommand) → IsCommand c → IsPlainData (command c)
unfolding command record_of
command_plain (OpenNote at text) is =
    let south = is.south in
    let north = is.north in
    let lat = short at.lat7 (omega (arith, ints)) (omega (arith, ints)) in
    let lon = short at.lon7 is.west is.east in
    ((refl, (refl, (refl, tt))), tt, ((refl, (refl, tt)), lat, ((refl, tt), lon, (tt, tt, tt))))
command_plain (Comment id text) is = ((refl, (refl, tt)), tt, ((refl, tt), is, (tt, tt, tt)))
command_plain (CloseNote id text) is = ((refl, (refl, tt)), tt, ((refl, tt), is, (tt, tt, tt)))
command_plain (Reopen id text) is = ((refl, (refl, tt)), tt, ((refl, tt), is, (tt, tt, tt)))

user_plain : (o : Owner) → o.id < 2 ^ 64 → IsPlainData (user o)
unfolding user record_of
user_plain o id = ((refl, tt), id, (tt, tt, tt))

pub line_plain : (e : NoteEntry) → IsEntry e → IsPlainData (line_data e)
unfolding line_data record_of
line_plain e is = by e.caller is.caller
  where
    small : e.session < 2 ^ 64
    small = let low = is.session in omega arith

    by : (caller : Option Owner) → IsCaller caller → IsPlainData (record_of (
        field (codes "at") (natural e.stamp)
        ∷ field (codes "call") (natural e.call)
        ∷ field (codes "command") (command e.command)
        ∷ field (codes "session") (natural e.session)
        ∷ field_if (codes "user") user caller ∷ []))
    by None known = ((refl, (refl, (refl, tt))), is.stamp, ((refl, (refl, tt)), is.call, ((refl, tt), command_plain e.command is.command, (tt, small, tt))))
    by (Some o) known =
        ((refl, (refl, (refl, (refl, tt)))), is.stamp, ((refl, (refl, (refl, tt))), is.call, ((refl, (refl, tt)), command_plain e.command is.command, ((refl, tt), small, (tt, user_plain o known, tt)))))
