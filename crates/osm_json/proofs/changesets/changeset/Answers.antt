use Rattle.std.proofs.Common.{codes}
use Rattle.osm_json.specs.Rows.{changeset, changeset_row}
use Rattle.osm_json.proofs.Tokens.{sent, document_sent, at_last}
use Rattle.osm_json.proofs.changesets.changeset.Goals as goal

pub returns : goal.returns
unfolding changeset
returns c =
    at_last c.end_object.result c.end_object.ensures (λ end. document_sent (codes "changeset") (changeset_row c.args.row.now) (sent c.in_ok-begin_object.ensures) (sent c.in_ok-key.ensures) c.in_ok-changeset_row.ensures c.in_ok-version.ensures end)
