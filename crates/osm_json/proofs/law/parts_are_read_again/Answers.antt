use Rattle.osm_change.specs.Document.{document_of}
use Rattle.osm_json.proofs.Changes.{change_short, change_again}
use Rattle.osm_json.proofs.PlainParts.{tags_flatter, ops_flatter}
use Rattle.osm_json.proofs.Returned.{tags_returned, ops_returned}
use Rattle.osm_json.proofs.law.parts_are_read_again.Goals as goal

pub returns-clause-tags : goal.returns-clause-tags
returns-clause-tags c = λ tags rise. (tags_flatter tags rise).plain

pub returns-clause-change : goal.returns-clause-change
returns-clause-change c =
    λ ops is. (ops_flatter (document_of ops) (change_short ops is (c.changes_are_read_again.ensures.document ops is.well_formed))).plain

pub returns-clause-tags_again : goal.returns-clause-tags_again
returns-clause-tags_again c = tags_returned

pub returns-clause-change_again : goal.returns-clause-change_again
returns-clause-change_again c =
    λ ops is rest.
    let raw = c.changes_are_read_again.ensures.document ops is.well_formed in
    ops_returned (document_of ops) rest (change_short ops is raw) (change_again ops is raw)
