-- The tokens of an entry's line are read as that entry.
use Rattle.std.proofs.Common.{◌≡◌, ℕ, ◌^◌, ◌<◌, Bool, true, false, List, [], ◌∷◌, ◌++◌, length, codes, Option, Some, None, Result, Ok, refl, sym, ap, ◌∙◌, append-nil, arith}
use Rattle.std.specs.Prelude.{if◌then◌else◌}
use Rattle.std.proofs.lemmas.Bool.{eq-eqb}
use Rattle.std.specs.Str.{bytes_eq}
use Rattle.json.specs.Token.{Token, begin_object, end_object}
use Rattle.serde_json.specs.Data.{Data, boolean, string}
use Rattle.serde_json.specs.Find.{as_bool, as_str}
use Rattle.osm_base.specs.declared.keys.Kind.{Kind}
use Rattle.osm_base.specs.declared.people.User.{User}
use Rattle.osm_element.specs.Tags.{Tag, KeysRise}
use Rattle.osm_change.specs.Build.{change_of}
use Rattle.osm_change.specs.Change.{IsWellFormed}
use Rattle.osm_change.specs.Document.{document_of}
use Rattle.osm_change.specs.declared.causes.ShapeFault.{ShapeFault}
use Rattle.osm_change.specs.declared.operations.Op.{Op}
use Rattle.osm_change.specs.declared.raw.RawOp.{RawOp}
use Rattle.osm_json.specs.Again.{natural_of, next_as, ops_of}
use Rattle.osm_json.specs.Reading.{kind_of, tags_of}
use Rattle.osm_json.specs.Rows.{tags as tags_data}
use Rattle.osm_json.specs.Sent.{tokens_of}
use Rattle.osm_json.specs.Shown.{Field, field, field_if, natural, kind}
use Rattle.osm_json.specs.Uploads.{IsChange, change}
use Rattle.osm_model.specs.declared.commands.Command.{Command}
use Rattle.osm_model.specs.declared.commands.Command.TheVariants.{CreateChangeset, Retag, CloseChangeset, Upload, Single, MakeRedaction, Redact, Unredact}
use Rattle.osm_model.specs.declared.commands.Entry.{Entry}
use Rattle.journal_text.specs.Line.{command_fields, command, user_fields, user, entry_fields, line_data, FitsIfSome, IsCommand, IsEntry}
use Rattle.json_line.specs.Read.{Parsed, ◌>>=◌, end_next, key_next, member_next, session_next}
use Rattle.json_line.proofs.Onto.{onto, record_onto, session_read}
use Rattle.journal_text.specs.Read.{number_next, optional_next, user_next, built, change_next, one_of, create_next, retag_next, close_next, upload_next, single_next, title_next, redact_next, unredact_next, by_act, command_next, entry_next}

module _
    (natural_law : (n : ℕ) → n < 2 ^ 64 → (rest : List Token) → next_as natural_of (tokens_of (natural n) ++ rest) ≡ Some (n, rest))
    (flag_law : (b : Bool) (rest : List Token) → next_as as_bool (tokens_of (boolean b) ++ rest) ≡ Some (b, rest))
    (text_law : (text : List ℕ) (rest : List Token) → next_as as_str (tokens_of (string text) ++ rest) ≡ Some (text, rest))
    (kind_law : (k : Kind) (rest : List Token) → next_as kind_of (tokens_of (kind k) ++ rest) ≡ Some (k, rest))
    (tags_law : (tags : List Tag) → KeysRise tags → (rest : List Token) → next_as tags_of (tokens_of (tags_data tags) ++ rest) ≡ Some (tags, rest))
    (ops_law : (ops : List Op) → IsChange ops → (rest : List Token) → next_as ops_of (tokens_of (change ops) ++ rest) ≡ Some (document_of ops, rest))
    (change_law : (ops : List Op) → IsWellFormed ops → (changeset : ℕ) → change_of changeset (document_of ops) ≡ Ok ops)
  where
    -- a number that may be left out, and the name of the member behind it
    optional_read : (name behind : List ℕ) (value : Option ℕ) (d : Data) (fs : List Field) (rest : List Token) → FitsIfSome value
        → bytes_eq name name ≡ true → bytes_eq behind name ≡ false → bytes_eq behind behind ≡ true
        → optional_next name behind (onto (field_if name natural value ∷ field behind d ∷ fs) rest) ≡ Some (value, tokens_of d ++ onto fs rest)
    unfolding optional_next
    optional_read name behind None d fs rest small same other also =
        ap (λ (b : Bool). if b then number_next behind (tokens_of d ++ onto fs rest) else (if bytes_eq behind behind then Some (None, tokens_of d ++ onto fs rest) else None)) other
        ∙ ap (λ (b : Bool). if b then Some (None, tokens_of d ++ onto fs rest) else None) also
    optional_read name behind (Some n) d fs rest small same other also =
        let ts = tokens_of (natural n) ++ onto (field behind d ∷ fs) rest in
        ap (λ (b : Bool). if b then number_next behind ts else (if bytes_eq name behind then Some (None, ts) else None)) same
        ∙ ap (λ (o : Parsed ℕ). o >>= λ n ts. key_next behind ts >>= λ _ ts. Some (Some n, ts)) (natural_law n small (onto (field behind d ∷ fs) rest))
        ∙ ap (λ (b : Bool). (if b then Some (tt, tokens_of d ++ onto fs rest) else None) >>= λ (u : Unit {0}) ts. Some (Some n, ts)) also

    user_read : (u : User) (rest : List Token) → u.id < 2 ^ 64 → FitsIfSome u.limit → user_next (tokens_of (user u) ++ rest) ≡ Some (u, rest)
    unfolding user_next user
    user_read u rest small limit =
        ap user_next (record_onto (user_fields u) rest)
        ∙ ap (λ (o : Parsed ℕ). o >>= λ id ts. optional_next (codes "limit") (codes "moderator") ts >>= λ limit ts. next_as as_bool ts >>= λ moderator ts. member_next (codes "name") as_str ts >>= λ name ts. end_next ts >>= λ _ ts. Some (record { id = id; name = name; moderator = moderator; limit = limit }, ts)) (natural_law u.id small _)
        ∙ ap (λ (o : Parsed (Option ℕ)). o >>= λ limit ts. next_as as_bool ts >>= λ moderator ts. member_next (codes "name") as_str ts >>= λ name ts. end_next ts >>= λ _ ts. Some (record { id = u.id; name = name; moderator = moderator; limit = limit }, ts))
        (optional_read (codes "limit") (codes "moderator") u.limit (boolean u.moderator) (field (codes "name") (string u.name) ∷ []) rest limit refl refl refl)
        ∙ ap (λ (o : Parsed Bool). o >>= λ moderator ts. member_next (codes "name") as_str ts >>= λ name ts. end_next ts >>= λ _ ts. Some (record { id = u.id; name = name; moderator = moderator; limit = u.limit }, ts)) (flag_law u.moderator _)
        ∙ ap (λ (o : Parsed (List ℕ)). o >>= λ name ts. end_next ts >>= λ _ ts. Some (record { id = u.id; name = name; moderator = u.moderator; limit = u.limit }, ts)) (text_law u.name _)

    ops_read : (id : ℕ) (ops : List Op) (rest : List Token) → IsChange ops → change_next id (Token.key (codes "osmChange") ∷ (tokens_of (change ops) ++ rest)) ≡ Some (ops, rest)
    unfolding change_next
    ops_read id ops rest is =
        ap (λ (o : Parsed (List RawOp)). o >>= λ raw ts. built (change_of id raw) ts) (ops_law ops is rest)
        ∙ ap (λ (r : Result (List Op) ShapeFault). built r rest) (change_law ops is.well_formed id)

    act_read : (name : List ℕ) (c : Command) (fs : List Field) (rest : List Token) → by_act name (onto fs rest) ≡ Some (c, end_object ∷ rest)
        → command_next (begin_object ∷ Token.key (codes "act") ∷ (tokens_of (string name) ++ onto fs rest)) ≡ Some (c, rest)
    unfolding command_next
    act_read name c fs rest is =
        ap (λ (o : Parsed (List ℕ)). o >>= λ act ts. by_act act ts >>= λ command ts. end_next ts >>= λ _ ts. Some (command, ts)) (text_law name (onto fs rest))
        ∙ ap (λ (o : Parsed Command). o >>= λ command ts. end_next ts >>= λ _ ts. Some (command, ts)) is

    command_read : (c : Command) (rest : List Token) → IsCommand c → command_next (tokens_of (command c) ++ rest) ≡ Some (c, rest)
    unfolding command by_act create_next retag_next close_next upload_next single_next title_next redact_next unredact_next
    command_read (CreateChangeset tags large_from) rest is =
        ap command_next (record_onto (command_fields (CreateChangeset tags large_from)) rest)
        ∙ act_read (codes "create_changeset") (CreateChangeset tags large_from) (field_if (codes "large_from") natural large_from ∷ field (codes "tags") (tags_data tags) ∷ []) rest
        (ap (λ (o : Parsed (Option ℕ)). o >>= λ large_from ts. next_as tags_of ts >>= λ tags ts. Some (CreateChangeset tags large_from, ts)) (optional_read (codes "large_from") (codes "tags") large_from (tags_data tags) [] rest is.1 refl refl refl)
        ∙ ap (λ (o : Parsed (List Tag)). o >>= λ tags ts. Some (CreateChangeset tags large_from, ts)) (tags_law tags is.0 (end_object ∷ rest)))
    command_read (Retag id tags) rest is =
        ap command_next (record_onto (command_fields (Retag id tags)) rest)
        ∙ act_read (codes "retag") (Retag id tags) (field (codes "changeset") (natural id) ∷ field (codes "tags") (tags_data tags) ∷ []) rest
        (ap (λ (o : Parsed ℕ). o >>= λ id ts. member_next (codes "tags") tags_of ts >>= λ tags ts. Some (Retag id tags, ts)) (natural_law id is.0 (onto (field (codes "tags") (tags_data tags) ∷ []) rest))
        ∙ ap (λ (o : Parsed (List Tag)). o >>= λ tags ts. Some (Retag id tags, ts)) (tags_law tags is.1 (end_object ∷ rest)))
    command_read (CloseChangeset id) rest is =
        ap command_next (record_onto (command_fields (CloseChangeset id)) rest)
        ∙ act_read (codes "close") (CloseChangeset id) (field (codes "changeset") (natural id) ∷ []) rest (ap (λ (o : Parsed ℕ). o >>= λ id ts. Some (CloseChangeset id, ts)) (natural_law id is (end_object ∷ rest)))
    command_read (Upload id ops) rest is =
        ap command_next (record_onto (command_fields (Upload id ops)) rest)
        ∙ act_read (codes "upload") (Upload id ops) (field (codes "changeset") (natural id) ∷ field (codes "osmChange") (change ops) ∷ []) rest
        (ap (λ (o : Parsed ℕ). o >>= λ id ts. change_next id ts >>= λ ops ts. Some (Upload id ops, ts)) (natural_law id is.0 (onto (field (codes "osmChange") (change ops) ∷ []) rest))
        ∙ ap (λ (o : Parsed (List Op)). o >>= λ ops ts. Some (Upload id ops, ts)) (ops_read id ops (end_object ∷ rest) is.1))
    command_read (Single id ops) rest is =
        ap command_next (record_onto (command_fields (Single id ops)) rest)
        ∙ act_read (codes "single") (Single id ops) (field (codes "changeset") (natural id) ∷ field (codes "osmChange") (change ops) ∷ []) rest
        (ap (λ (o : Parsed ℕ). o >>= λ id ts. change_next id ts >>= λ ops ts. one_of ops ts >>= λ ops ts. Some (Single id ops, ts)) (natural_law id is.0 (onto (field (codes "osmChange") (change ops) ∷ []) rest))
        ∙ ap (λ (o : Parsed (List Op)). o >>= λ ops ts. one_of ops ts >>= λ ops ts. Some (Single id ops, ts)) (ops_read id ops (end_object ∷ rest) is.1)
        ∙ ap (λ (b : Bool). (if b then Some (ops, end_object ∷ rest) else None) >>= λ ops ts. Some (Single id ops, ts)) (eq-eqb (length ops) 1 is.2))
    command_read (MakeRedaction title) rest is =
        ap command_next (record_onto (command_fields (MakeRedaction title)) rest)
        ∙ act_read (codes "make_redaction") (MakeRedaction title) (field (codes "title") (string title) ∷ []) rest (ap (λ (o : Parsed (List ℕ)). o >>= λ title ts. Some (MakeRedaction title, ts)) (text_law title (end_object ∷ rest)))
    command_read (Redact key version redaction) rest is =
        ap command_next (record_onto (command_fields (Redact key version redaction)) rest)
        ∙ act_read (codes "redact") (Redact key version redaction) (field (codes "id") (natural key.id) ∷ field (codes "redaction") (natural redaction) ∷ field (codes "type") (kind key.kind) ∷ field (codes "version") (natural version) ∷ []) rest
        (ap (λ (o : Parsed ℕ). o >>= λ id ts. member_next (codes "redaction") natural_of ts >>= λ redaction ts. member_next (codes "type") kind_of ts >>= λ kind ts. member_next (codes "version") natural_of ts >>= λ version ts.
        Some (Redact (record { kind = kind; id = id }) version redaction, ts)) (natural_law key.id is.0 (onto (field (codes "redaction") (natural redaction) ∷ field (codes "type") (kind key.kind) ∷ field (codes "version") (natural version) ∷ []) rest))
        ∙ ap (λ (o : Parsed ℕ). o >>= λ redaction ts. member_next (codes "type") kind_of ts >>= λ kind ts. member_next (codes "version") natural_of ts >>= λ version ts.
        Some (Redact (record { kind = kind; id = key.id }) version redaction, ts)) (natural_law redaction is.2 (onto (field (codes "type") (kind key.kind) ∷ field (codes "version") (natural version) ∷ []) rest))
        ∙ ap (λ (o : Parsed Kind). o >>= λ kind ts. member_next (codes "version") natural_of ts >>= λ version ts. Some (Redact (record { kind = kind; id = key.id }) version redaction, ts)) (kind_law key.kind (onto (field (codes "version") (natural version) ∷ []) rest))
        ∙ ap (λ (o : Parsed ℕ). o >>= λ version ts. Some (Redact key version redaction, ts)) (natural_law version is.1 (end_object ∷ rest)))
    command_read (Unredact key version) rest is =
        ap command_next (record_onto (command_fields (Unredact key version)) rest)
        ∙ act_read (codes "unredact") (Unredact key version) (field (codes "id") (natural key.id) ∷ field (codes "type") (kind key.kind) ∷ field (codes "version") (natural version) ∷ []) rest
        (ap (λ (o : Parsed ℕ). o >>= λ id ts. member_next (codes "type") kind_of ts >>= λ kind ts. member_next (codes "version") natural_of ts >>= λ version ts. Some (Unredact (record { kind = kind; id = id }) version, ts)) (natural_law key.id is.0 (onto (field (codes "type") (kind key.kind) ∷ field (codes "version") (natural version) ∷ []) rest))
        ∙ ap (λ (o : Parsed Kind). o >>= λ kind ts. member_next (codes "version") natural_of ts >>= λ version ts. Some (Unredact (record { kind = kind; id = key.id }) version, ts)) (kind_law key.kind (onto (field (codes "version") (natural version) ∷ []) rest))
        ∙ ap (λ (o : Parsed ℕ). o >>= λ version ts. Some (Unredact key version, ts)) (natural_law version is.1 (end_object ∷ rest)))

    pub entry_read : (e : Entry) → IsEntry e → entry_next (tokens_of (line_data e)) ≡ Some (e, [])
    unfolding entry_next line_data
    entry_read e is =
        let fits : e.session < 2 ^ 64 = let low = is.session in omega arith in
        ap entry_next (sym (append-nil (tokens_of (line_data e))) ∙ record_onto (entry_fields e) [])
        ∙ ap (λ (o : Parsed ℕ). o >>= λ stamp ts. member_next (codes "call") natural_of ts >>= λ call ts. key_next (codes "command") ts >>= λ _ ts. command_next ts >>= λ command ts. session_next ts >>= λ session ts. key_next (codes "user") ts >>= λ _ ts. user_next ts >>= λ user ts. end_next ts >>= λ _ ts.
        Some (record { session = session; call = call; user = user; stamp = stamp; command = command }, ts)) (natural_law e.stamp is.stamp (onto (field (codes "call") (natural e.call) ∷ field (codes "command") (command e.command) ∷ field (codes "session") (natural e.session) ∷ field (codes "user") (user e.user) ∷ []) []))
        ∙ ap (λ (o : Parsed ℕ). o >>= λ call ts. key_next (codes "command") ts >>= λ _ ts. command_next ts >>= λ command ts. session_next ts >>= λ session ts. key_next (codes "user") ts >>= λ _ ts. user_next ts >>= λ user ts. end_next ts >>= λ _ ts.
        Some (record { session = session; call = call; user = user; stamp = e.stamp; command = command }, ts)) (natural_law e.call is.call (onto (field (codes "command") (command e.command) ∷ field (codes "session") (natural e.session) ∷ field (codes "user") (user e.user) ∷ []) []))
        ∙ ap (λ (o : Parsed Command). o >>= λ command ts. session_next ts >>= λ session ts. key_next (codes "user") ts >>= λ _ ts. user_next ts >>= λ user ts. end_next ts >>= λ _ ts.
        Some (record { session = session; call = e.call; user = user; stamp = e.stamp; command = command }, ts)) (command_read e.command (onto (field (codes "session") (natural e.session) ∷ field (codes "user") (user e.user) ∷ []) []) is.command)
        ∙ ap (λ (o : Parsed ℕ). o >>= λ session ts. key_next (codes "user") ts >>= λ _ ts. user_next ts >>= λ user ts. end_next ts >>= λ _ ts.
        Some (record { session = session; call = e.call; user = user; stamp = e.stamp; command = e.command }, ts)) (session_read natural_law e.session (onto (field (codes "user") (user e.user) ∷ []) []) is.session fits)
        ∙ ap (λ (o : Parsed User). o >>= λ user ts. end_next ts >>= λ _ ts. Some (record { session = e.session; call = e.call; user = user; stamp = e.stamp; command = e.command }, ts)) (user_read e.user (end_object ∷ []) is.user is.limit)
