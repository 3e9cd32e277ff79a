use Rattle.std.proofs.Common.{List, flat_map, codes}
use Rattle.osm_json.specs.Sent.{tokens_of}
use Rattle.osm_json.specs.Shown.{list_of}
use Rattle.notes_core.specs.Search.{Numbered, numbered}
use Rattle.notes_core.specs.Shown.{row_data}
use Rattle.notes_core.specs.World.{state_of}
use Rattle.notes_core.proofs.Sent.{document_sent, flat_twice, list_sent, sent}
use Rattle.notes_core.proofs.answers.write_list.Goals as goal

pub returns : goal.returns
returns c =
    let all : List Numbered = flat_map (numbered (state_of c.args.world.now)) c.args.ids.now in
    let rows = rw (flat_twice (λ (r : Numbered). tokens_of (row_data r)) (numbered (state_of c.args.world.now)) c.args.ids.now) at c.in_ok-write_rows.ensures in
    document_sent (codes "notes") (list_of row_data all)
    (sent c.in_ok-begin_object.ensures) (sent c.in_ok-key.ensures)
    (list_sent row_data all (sent c.in_ok-begin_array.ensures) rows (sent c.in_ok-end_array.ensures))
    c.in_ok-write_version.ensures (sent c.in_ok-end_object.ensures)
