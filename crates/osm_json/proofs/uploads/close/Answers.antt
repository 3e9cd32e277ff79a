use Rattle.osm_json.specs.Uploads.{if_unused_field}
use Rattle.osm_json.proofs.Tokens.{◌⨾◌, sent, at_last}
use Rattle.osm_json.proofs.WrittenOps.{field_sent}
use Rattle.osm_json.proofs.uploads.close.Goals as goal

pub returns : goal.returns
returns c =
    at_last c.end_object.result c.end_object.ensures (λ end. sent c.in_ok-end_array.ensures ⨾ field_sent (if_unused_field c.args.action) (rw c.if_unused.ensures at c.in_ok-members.ensures) ⨾ end)
