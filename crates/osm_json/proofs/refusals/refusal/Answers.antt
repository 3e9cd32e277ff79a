use Rattle.std.proofs.Common.{codes}
use Rattle.serde_json.specs.Data.{string}
use Rattle.osm_json.specs.Shown.{field}
use Rattle.osm_json.specs.Refused.{refusal, error_name}
use Rattle.osm_json.proofs.Tokens.{◌⊕◌, one_sent, record_sent, sent, at_last}
use Rattle.osm_json.proofs.refusals.refusal.Goals as goal

pub returns : goal.returns
unfolding refusal
returns c =
    let error = one_sent (field (codes "error") (string (error_name c.args.fault.now))) (rw c.error_name.ensures at c.in_ok-text.ensures) in
    let fields = c.in_ok-before_error.ensures ⊕ error ⊕ c.in_ok-of_request.ensures ⊕ c.in_ok-of_changeset.ensures ⊕ c.in_ok-of_element.ensures in
    at_last c.end_object.result c.end_object.ensures (λ end. record_sent (sent c.in_ok-begin_object.ensures) fields end)
