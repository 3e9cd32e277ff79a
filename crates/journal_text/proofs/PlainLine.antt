-- The line of an entry is plain.
use Rattle.std.proofs.Common.{◌≡◌, ◌^◌, ◌<◌, ℕ, false, List, [], ◌∷◌, codes, Option, Some, None, refl, arith}
use Rattle.serde_json.specs.Data.{boolean, string}
use Rattle.serde_json.specs.Written.{members_text}
use Rattle.osm_base.specs.declared.people.User.{User}
use Rattle.osm_element.specs.Tags.{Tag, KeysRise}
use Rattle.osm_change.specs.declared.operations.Op.{Op}
use Rattle.osm_json.specs.Again.{IsPlainData}
use Rattle.osm_json.specs.Rows.{tags as tags_data}
use Rattle.osm_json.specs.Shown.{field, field_if, members_of, natural, record_of}
use Rattle.osm_json.specs.Uploads.{IsChange, change}
use Rattle.osm_model.specs.declared.commands.Command.{Command}
use Rattle.osm_model.specs.declared.commands.Command.TheVariants.{CreateChangeset, Retag, CloseChangeset, Upload, Single, MakeRedaction, Redact, Unredact}
use Rattle.osm_model.specs.declared.commands.Entry.{Entry}
use Rattle.journal_text.specs.Line.{command, user, line, line_data, entry_fields, FitsIfSome, IsCommand, IsEntry}

pub begins : (e : Entry) → (rest : List ℕ) × (line e ≡ 123 ∷ rest)
unfolding line_data record_of
begins e = (members_text false (members_of (entry_fields e)), refl)

module _ (tags_plain : (tags : List Tag) → KeysRise tags → IsPlainData (tags_data tags)) (change_plain : (ops : List Op) → IsChange ops → IsPlainData (change ops)) where
  command_plain : (c : Command) → IsCommand c → IsPlainData (command c)
  unfolding command record_of
  command_plain (CreateChangeset tags None) is = ((refl, tt), tt, (tt, tags_plain tags is.0, tt))
  command_plain (CreateChangeset tags (Some n)) is = ((refl, (refl, tt)), tt, ((refl, tt), is.1, (tt, tags_plain tags is.0, tt)))
  command_plain (Retag id tags) is = ((refl, (refl, tt)), tt, ((refl, tt), is.0, (tt, tags_plain tags is.1, tt)))
  command_plain (CloseChangeset id) is = ((refl, tt), tt, (tt, is, tt))
  command_plain (Upload id ops) is = ((refl, (refl, tt)), tt, ((refl, tt), is.0, (tt, change_plain ops is.1, tt)))
  command_plain (Single id ops) is = ((refl, (refl, tt)), tt, ((refl, tt), is.0, (tt, change_plain ops is.1, tt)))
  command_plain (MakeRedaction title) is = ((refl, tt), tt, (tt, tt, tt))
  command_plain (Redact key version redaction) is = ((refl, (refl, (refl, (refl, tt)))), tt, ((refl, (refl, (refl, tt))), is.0, ((refl, (refl, tt)), is.2, ((refl, tt), tt, (tt, is.1, tt)))))
  command_plain (Unredact key version) is = ((refl, (refl, (refl, tt))), tt, ((refl, (refl, tt)), is.0, ((refl, tt), tt, (tt, is.1, tt))))

  user_plain : (u : User) → u.id < 2 ^ 64 → FitsIfSome u.limit → IsPlainData (user u)
  unfolding user record_of
  user_plain u id = by u.limit
    where
      by : (limit : Option ℕ) → FitsIfSome limit → IsPlainData (record_of (field (codes "id") (natural u.id) ∷ field_if (codes "limit") natural limit ∷ field (codes "moderator") (boolean u.moderator) ∷ field (codes "name") (string u.name) ∷ []))
      by None is = ((refl, (refl, tt)), id, ((refl, tt), tt, (tt, tt, tt)))
      by (Some n) is = ((refl, (refl, (refl, tt))), id, ((refl, (refl, tt)), is, ((refl, tt), tt, (tt, tt, tt))))

  pub line_plain : (e : Entry) → IsEntry e → IsPlainData (line_data e)
  unfolding line_data record_of
  line_plain e is =
      let small : e.session < 2 ^ 64 = let low = is.session in omega arith in
      ((refl, (refl, (refl, (refl, tt)))), is.stamp, ((refl, (refl, (refl, tt))), is.call, ((refl, (refl, tt)), command_plain e.command is.command, ((refl, tt), small, (tt, user_plain e.user is.user is.limit, tt)))))
