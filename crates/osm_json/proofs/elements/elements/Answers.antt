use Rattle.osm_json.proofs.Growing.{◌⨾◌, becomes, elements_text}
use Rattle.osm_json.proofs.elements.elements.Goals as goal

pub returns : goal.returns
returns c = becomes (elements_text c.args.within.now c.args.rows.now) (c.in_ok-opening.ensures ⨾ c.in_ok-element_rows.ensures ⨾ c.in_ok-piece.ensures)
