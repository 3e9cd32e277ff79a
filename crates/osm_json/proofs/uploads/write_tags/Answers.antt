use Rattle.osm_json.proofs.uploads.write_tags.Goals as goal

pub returns : goal.returns
returns c = rw c.list.ensures at c.tags.ensures
