use Rattle.osm_json.proofs.Latest.{Gone}
use Rattle.osm_json.proofs.tags.tags_from.Given as goal

abbrev pub invariant-loop-index : goal.invariant-loop-index
invariant-loop-index l = Gone l.entries l.index l.found
