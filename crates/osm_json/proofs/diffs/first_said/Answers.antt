use Rattle.std.proofs.Common.{FitsSigned, w64, rules}
use Rattle.std.proofs.lemmas.Int.{to_z-of_z}
use Rattle.osm_json.proofs.Growing.{◌⨾◌}
use Rattle.osm_json.proofs.diffs.first_said.Goals as goal

pub returns-in_ok-long-in-Some : goal.returns-in_ok-long-in-Some
returns-in_ok-long-in-Some c =
    let fits : FitsSigned w64 c.args.row.now.old_id = search rules in
    let old = simp to_z-of_z at c.in_ok-long-in-Some.ensures in
    rw c.in-Some.is (c.in_ok-natural-in-Some.ensures ⨾ old)
