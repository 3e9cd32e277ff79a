use Rattle.std.proofs.Common.{arith}
use Rattle.osm_json.proofs.Growing.{becomes, none_left, no_tags}
use Rattle.osm_json.proofs.rows.tags.Goals as goal

pub returns-in_ok-piece : goal.returns-in_ok-piece
returns-in_ok-piece c = rw (none_left c.args.tags.now (omega arith)) (becomes no_tags c.in_ok-piece.ensures)
