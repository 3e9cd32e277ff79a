use Rattle.osm_json.specs.Rows.{owner_fields}
use Rattle.osm_json.proofs.changesets.owner.Goals as goal

pub returns : goal.returns
unfolding owner_fields
returns c = simp c.as_str.ensures at c.members.ensures
