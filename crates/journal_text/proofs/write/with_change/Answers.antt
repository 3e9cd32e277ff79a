use Rattle.std.proofs.Common.{codes}
use Rattle.osm_json.specs.Uploads.{change as change_data}
use Rattle.json_line.proofs.Sent.{◌⊕◌, member_sent, record_sent, sent, at_last}
use Rattle.journal_text.proofs.write.with_change.Goals as goal

pub returns : goal.returns
returns c =
    at_last c.end_object.result c.end_object.ensures (λ end. record_sent (sent c.in_ok-begin_object.ensures) (c.in_ok-members.ensures ⊕ member_sent (codes "osmChange") (change_data c.args.change.now) (sent c.in_ok-key.ensures) c.in_ok-write_change.ensures) end)
