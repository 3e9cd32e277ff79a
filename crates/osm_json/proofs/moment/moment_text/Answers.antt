use Rattle.std.proofs.Common.{w64, arith}
use Rattle.std.proofs.lemmas.Int.{to_z_pos}
use Rattle.osm_json.proofs.Moments.{text_of_instant}
use Rattle.osm_json.proofs.moment.moment_text.Goals as goal

pub returns : goal.returns
returns c =
    let stamp = c.args.stamp in
    let value = rw (c.seconds-seconds.ensures, to_z_pos w64 stamp (omega arith)) at (rw c.unwrap-instant.ensures at c.from_second.ensures.value) in
    text_of_instant c.new.result c.to_plain.result _ stamp c.new.ensures (rw c.to_plain.ensures value) c.timestamp_text.ensures
