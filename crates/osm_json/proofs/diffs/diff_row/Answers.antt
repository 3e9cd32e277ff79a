use Rattle.osm_json.proofs.Growing.{◌⨾◌, becomes, diff_row_text}
use Rattle.osm_json.proofs.diffs.diff_row.Goals as goal

pub returns : goal.returns
returns c =
    let kind = rw c.kind_name.ensures at c.in_ok-text.ensures in
    becomes (diff_row_text c.args.row.now) (c.in_ok-said.ensures ⨾ kind ⨾ c.in_ok-piece.ensures)
