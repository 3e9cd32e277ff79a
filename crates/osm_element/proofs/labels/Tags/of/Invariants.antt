use Rattle.std.proofs.Common.{◌≡◌, take}
use Rattle.osm_element.proofs.labels.Tags.of.Given as goal

abbrev pub invariant-loop-key : goal.invariant-loop-key
invariant-loop-key l = l.tags ≡ take l.key-index l.pairs
