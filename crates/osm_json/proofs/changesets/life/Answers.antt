use Rattle.std.proofs.Common.{codes}
use Rattle.osm_json.specs.Shown.{field, field_if, natural, moment}
use Rattle.osm_json.specs.Rows.{life_fields}
use Rattle.osm_json.proofs.Tokens.{◌⊕◌, one_sent}
use Rattle.osm_json.proofs.changesets.life.Goals as goal

pub returns : goal.returns
unfolding life_fields
returns c =
    let row = c.args.row.now in
    let count = one_sent (field (codes "changes_count") (natural row.count)) c.in_ok-natural.ensures in
    let closes = one_sent (field_if (codes "closed_at") moment row.closes) c.in_ok-optional_moment.ensures in
    let created = one_sent (field (codes "created_at") (moment row.created)) c.in_ok-moment.ensures in
    let id = one_sent (field (codes "id") (natural row.id)) c.in_ok-natural-2.ensures in
    count ⊕ closes ⊕ created ⊕ id
