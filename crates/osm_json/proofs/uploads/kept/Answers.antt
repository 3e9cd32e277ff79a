use Rattle.std.proofs.Common.{FitsSigned, w64, rules}
use Rattle.std.proofs.lemmas.Int.{to_z-of_z}
use Rattle.osm_json.proofs.Tokens.{◌⊕◌, record_sent, sent, at_last}
use Rattle.osm_json.proofs.uploads.kept.Goals as goal

pub returns : goal.returns
returns c =
    let fits : FitsSigned w64 c.args.id = search rules in
    let first = simp to_z-of_z at c.in_ok-members.ensures in
    let behind = rw c.kind_of.ensures at c.in_ok-type_and_version.ensures in
    at_last c.end_object.result c.end_object.ensures (λ end. record_sent (sent c.in_ok-begin_object.ensures) (first ⊕ c.in_ok-content.ensures ⊕ c.in_ok-tags_if_some.ensures ⊕ behind) end)
