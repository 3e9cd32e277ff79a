use Rattle.osm_json.proofs.Growing.{◌⨾◌, becomes, block_text}
use Rattle.osm_json.proofs.elements.block.Goals as goal

pub returns : goal.returns
returns c =
    let opening = rw c.block_opening.ensures at c.in_ok-piece.ensures in
    becomes (block_text c.args.row.now) (opening ⨾ c.in_ok-element.ensures ⨾ c.in_ok-piece-2.ensures)
