-- The tokens of an entry's line are read as that entry.
use Rattle.std.proofs.Common.{◌≡◌, ℕ, ◌^◌, ◌<◌, ℤ, List, [], ◌∷◌, ◌++◌, codes, Option, Some, None, refl, sym, ap, ◌∙◌, append-nil, arith}
use Rattle.std.proofs.lemmas.Int.{ints}
use Rattle.json.specs.Token.{Token, begin_object, end_object}
use Rattle.serde_json.specs.Data.{string}
use Rattle.serde_json.specs.Find.{as_str}
use Rattle.osm_base.specs.Place.{Position, IsPosition}
use Rattle.osm_base.specs.declared.people.Owner.{Owner}
use Rattle.osm_json.specs.Again.{natural_of, next_as}
use Rattle.osm_json.specs.Sent.{tokens_of}
use Rattle.osm_json.specs.Shown.{Field, field, field_if, natural, integer}
use Rattle.notes_core.specs.declared.commands.NoteCommand.{NoteCommand}
use Rattle.notes_core.specs.declared.commands.NoteCommand.TheVariants.{OpenNote, Comment, CloseNote, Reopen}
use Rattle.notes_core.specs.declared.commands.NoteEntry.{NoteEntry}
use Rattle.notes_text.specs.Line.{command_fields, command, user_fields, user, entry_fields, line_data, IsCaller, IsCommand, IsEntry}
use Rattle.json_line.specs.Read.{Parsed, ◌>>=◌, end_next, key_next, member_next, session_next}
use Rattle.json_line.proofs.Onto.{onto, record_onto, session_read}
use Rattle.notes_text.specs.Read.{coordinate_next, placed, position_next, opening_next, comment_next, closing_next, reopening_next, by_act, command_next, user_next, caller_next, entry_next}
use Rattle.notes_text.proofs.Coordinates.{units_again, placed_there}

-- ---- positions

position_read : (at : Position) (fs : List Field) (rest : List Token) → IsPosition at.lat7 at.lon7
    → position_next (onto (field (codes "lat7") (integer at.lat7) ∷ field (codes "lon7") (integer at.lon7) ∷ fs) rest) ≡ Some (at, onto fs rest)
unfolding position_next
position_read at fs rest is =
    let south = is.south in
    let north = is.north in
    ap (λ (o : Parsed ℤ). o >>= λ lat7 ts. coordinate_next (codes "lon7") ts >>= λ lon7 ts. placed lat7 lon7 ts) (units_again at.lat7 (onto (field (codes "lon7") (integer at.lon7) ∷ fs) rest) (omega (arith, ints)) (omega (arith, ints)))
    ∙ ap (λ (o : Parsed ℤ). o >>= λ lon7 ts. placed at.lat7 lon7 ts) (units_again at.lon7 (onto fs rest) is.west is.east)
    ∙ placed_there at.lat7 at.lon7 (onto fs rest) is

module _
    (natural_law : (n : ℕ) → n < 2 ^ 64 → (rest : List Token) → next_as natural_of (tokens_of (natural n) ++ rest) ≡ Some (n, rest))
    (text_law : (text : List ℕ) (rest : List Token) → next_as as_str (tokens_of (string text) ++ rest) ≡ Some (text, rest))
  where
    user_read : (o : Owner) (rest : List Token) → o.id < 2 ^ 64 → user_next (tokens_of (user o) ++ rest) ≡ Some (o, rest)
    unfolding user_next user
    user_read o rest small =
        ap user_next (record_onto (user_fields o) rest)
        ∙ ap (λ (p : Parsed ℕ). p >>= λ id ts. member_next (codes "name") as_str ts >>= λ name ts. end_next ts >>= λ _ ts. Some (record { id = id; name = name }, ts)) (natural_law o.id small _)
        ∙ ap (λ (p : Parsed (List ℕ)). p >>= λ name ts. end_next ts >>= λ _ ts. Some (record { id = o.id; name = name }, ts)) (text_law o.name _)

    caller_read : (caller : Option Owner) (rest : List Token) → IsCaller caller → caller_next (onto (field_if (codes "user") user caller ∷ []) rest) ≡ Some (caller, rest)
    unfolding caller_next
    caller_read None rest is = refl
    caller_read (Some o) rest is = ap (λ (p : Parsed Owner). p >>= λ user ts. end_next ts >>= λ _ ts. Some (Some user, ts)) (user_read o (end_object ∷ rest) is)

    act_read : (name : List ℕ) (c : NoteCommand) (fs : List Field) (rest : List Token) → by_act name (onto fs rest) ≡ Some (c, end_object ∷ rest)
        → command_next (begin_object ∷ Token.key (codes "act") ∷ (tokens_of (string name) ++ onto fs rest)) ≡ Some (c, rest)
    unfolding command_next
    act_read name c fs rest is =
        ap (λ (o : Parsed (List ℕ)). o >>= λ act ts. by_act act ts >>= λ command ts. end_next ts >>= λ _ ts. Some (command, ts)) (text_law name (onto fs rest))
        ∙ ap (λ (o : Parsed NoteCommand). o >>= λ command ts. end_next ts >>= λ _ ts. Some (command, ts)) is

    -- the members of a command on a note that has a number
    said_read : (made : ℕ → List ℕ → NoteCommand) (id : ℕ) (text : List ℕ) (rest : List Token) → id < 2 ^ 64
        → member_next (codes "id") natural_of (onto (field (codes "id") (natural id) ∷ field (codes "text") (string text) ∷ []) rest) >>= (λ id ts. member_next (codes "text") as_str ts >>= λ text ts. Some (made id text, ts))
        ≡ Some (made id text, end_object ∷ rest)
    said_read made id text rest small =
        ap (λ (o : Parsed ℕ). o >>= λ id ts. member_next (codes "text") as_str ts >>= λ text ts. Some (made id text, ts)) (natural_law id small (onto (field (codes "text") (string text) ∷ []) rest))
        ∙ ap (λ (o : Parsed (List ℕ)). o >>= λ text ts. Some (made id text, ts)) (text_law text (end_object ∷ rest))

    command_read : (c : NoteCommand) (rest : List Token) → IsCommand c → command_next (tokens_of (command c) ++ rest) ≡ Some (c, rest)
    unfolding command by_act opening_next comment_next closing_next reopening_next
    command_read (OpenNote at text) rest is =
        ap command_next (record_onto (command_fields (OpenNote at text)) rest)
        ∙ act_read (codes "open") (OpenNote at text) (field (codes "lat7") (integer at.lat7) ∷ field (codes "lon7") (integer at.lon7) ∷ field (codes "text") (string text) ∷ []) rest
        (ap (λ (o : Parsed Position). o >>= λ at ts. member_next (codes "text") as_str ts >>= λ text ts. Some (OpenNote at text, ts)) (position_read at (field (codes "text") (string text) ∷ []) rest is)
        ∙ ap (λ (o : Parsed (List ℕ)). o >>= λ text ts. Some (OpenNote at text, ts)) (text_law text (end_object ∷ rest)))
    command_read (Comment id text) rest is =
        ap command_next (record_onto (command_fields (Comment id text)) rest)
        ∙ act_read (codes "comment") (Comment id text) (field (codes "id") (natural id) ∷ field (codes "text") (string text) ∷ []) rest (said_read Comment id text rest is)
    command_read (CloseNote id text) rest is =
        ap command_next (record_onto (command_fields (CloseNote id text)) rest)
        ∙ act_read (codes "close") (CloseNote id text) (field (codes "id") (natural id) ∷ field (codes "text") (string text) ∷ []) rest (said_read CloseNote id text rest is)
    command_read (Reopen id text) rest is =
        ap command_next (record_onto (command_fields (Reopen id text)) rest)
        ∙ act_read (codes "reopen") (Reopen id text) (field (codes "id") (natural id) ∷ field (codes "text") (string text) ∷ []) rest (said_read Reopen id text rest is)

    pub entry_read : (e : NoteEntry) → IsEntry e → entry_next (tokens_of (line_data e)) ≡ Some (e, [])
    unfolding entry_next line_data
    entry_read e is =
        let fits : e.session < 2 ^ 64 = let low = is.session in omega arith in
        ap entry_next (sym (append-nil (tokens_of (line_data e))) ∙ record_onto (entry_fields e) [])
        ∙ ap (λ (o : Parsed ℕ). o >>= λ stamp ts. member_next (codes "call") natural_of ts >>= λ call ts. key_next (codes "command") ts >>= λ _ ts. command_next ts >>= λ command ts. session_next ts >>= λ session ts. caller_next ts >>= λ caller ts.
        Some (record { session = session; call = call; caller = caller; stamp = stamp; command = command }, ts)) (natural_law e.stamp is.stamp (onto (field (codes "call") (natural e.call) ∷ field (codes "command") (command e.command) ∷ field (codes "session") (natural e.session) ∷ field_if (codes "user") user e.caller ∷ []) []))
        ∙ ap (λ (o : Parsed ℕ). o >>= λ call ts. key_next (codes "command") ts >>= λ _ ts. command_next ts >>= λ command ts. session_next ts >>= λ session ts. caller_next ts >>= λ caller ts.
        Some (record { session = session; call = call; caller = caller; stamp = e.stamp; command = command }, ts)) (natural_law e.call is.call (onto (field (codes "command") (command e.command) ∷ field (codes "session") (natural e.session) ∷ field_if (codes "user") user e.caller ∷ []) []))
        ∙ ap (λ (o : Parsed NoteCommand). o >>= λ command ts. session_next ts >>= λ session ts. caller_next ts >>= λ caller ts.
        Some (record { session = session; call = e.call; caller = caller; stamp = e.stamp; command = command }, ts)) (command_read e.command (onto (field (codes "session") (natural e.session) ∷ field_if (codes "user") user e.caller ∷ []) []) is.command)
        ∙ ap (λ (o : Parsed ℕ). o >>= λ session ts. caller_next ts >>= λ caller ts.
        Some (record { session = session; call = e.call; caller = caller; stamp = e.stamp; command = e.command }, ts)) (session_read natural_law e.session (onto (field_if (codes "user") user e.caller ∷ []) []) is.session fits)
        ∙ ap (λ (o : Parsed (Option Owner)). o >>= λ caller ts. Some (record { session = e.session; call = e.call; caller = caller; stamp = e.stamp; command = e.command }, ts)) (caller_read e.caller [] is.caller)
