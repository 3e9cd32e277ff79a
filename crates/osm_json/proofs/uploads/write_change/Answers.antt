use Rattle.std.proofs.Common.{map}
use Rattle.osm_change.specs.Document.{document_of}
use Rattle.osm_json.specs.Uploads.{in_blocks, given_block, step_of, given_ops}
use Rattle.osm_json.proofs.Tokens.{list_sent, sent}
use Rattle.osm_json.proofs.uploads.write_change.Goals as goal

pub returns : goal.returns
unfolding given_ops
returns c =
    list_sent given_block (in_blocks (map step_of (document_of c.args.change.now))) (sent c.in_ok-begin_array.ensures) c.in_ok-blocks.ensures (sent c.in_ok-end_array.ensures)
