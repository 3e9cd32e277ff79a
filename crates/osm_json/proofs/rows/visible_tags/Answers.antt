use Rattle.osm_json.specs.Rows.{tags_fields}
use Rattle.osm_json.specs.Added.{field_text}
use Rattle.osm_json.proofs.Growing.{nothing}
use Rattle.osm_json.proofs.rows.visible_tags.Goals as goal

pub returns-in-None : goal.returns-in-None
unfolding tags_fields field_text
returns-in-None c = rw (← c.in-None.ensures) nothing

pub returns-in_ok-tags-in-Some : goal.returns-in_ok-tags-in-Some
unfolding tags_fields
returns-in_ok-tags-in-Some c = rw (← c.in-Some.ensures) c.in_ok-tags-in-Some.ensures
