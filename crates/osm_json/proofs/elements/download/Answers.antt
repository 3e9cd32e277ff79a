use Rattle.osm_json.proofs.Growing.{◌⨾◌, becomes, download_text}
use Rattle.osm_json.proofs.elements.download.Goals as goal

pub returns : goal.returns
returns c = becomes (download_text c.args.rows.now) (c.in_ok-piece.ensures ⨾ c.in_ok-blocks.ensures ⨾ c.in_ok-piece-2.ensures)
