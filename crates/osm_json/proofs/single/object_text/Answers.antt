use Rattle.std.proofs.Common.{sym}
use Rattle.osm_json.proofs.Documents.{text_read}
use Rattle.osm_json.proofs.single.object_text.Goals as goal

pub returns-in-Ok : goal.returns-in-Ok
returns-in-Ok c =
    let h = rw c.in_ok-reader.ensures.ok at c.in-Ok.ensures in
    record { source = h.source; there = text_read c.args.text.now h.source h.begins; members = sym h.reads }
