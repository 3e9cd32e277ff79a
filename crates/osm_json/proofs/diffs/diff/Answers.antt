use Rattle.osm_json.proofs.Growing.{◌⨾◌, becomes, diff_text}
use Rattle.osm_json.proofs.diffs.diff.Goals as goal

pub returns : goal.returns
returns c = becomes (diff_text c.args.rows.now) (c.in_ok-piece.ensures ⨾ c.in_ok-diff_rows.ensures ⨾ c.in_ok-piece-2.ensures)
