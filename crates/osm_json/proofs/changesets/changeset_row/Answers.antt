use Rattle.std.proofs.Common.{codes}
use Rattle.osm_json.specs.Rows.{changeset_row, tags}
use Rattle.osm_json.proofs.Tokens.{◌⊕◌, member_sent, record_sent, sent, at_last}
use Rattle.osm_json.proofs.changesets.changeset_row.Goals as goal

pub returns : goal.returns
unfolding changeset_row
returns c =
    let tagged = member_sent (codes "tags") (tags c.args.row.now.tags) (sent c.in_ok-key.ensures) (rw c.list.ensures at c.in_ok-tags.ensures) in
    let fields = c.in_ok-life.ensures ⊕ c.in_ok-touched.ensures ⊕ c.in_ok-open.ensures ⊕ tagged ⊕ c.in_ok-owner.ensures in
    at_last c.end_object.result c.end_object.ensures (λ end. record_sent (sent c.in_ok-begin_object.ensures) fields end)
