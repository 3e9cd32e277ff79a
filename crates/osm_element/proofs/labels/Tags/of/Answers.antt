use Rattle.std.proofs.Common.{rules}
use Rattle.osm_element.proofs.Rising.{one_more_rises}
use Rattle.osm_element.proofs.labels.Tags.of.Goals as goal

pub with-requires : goal.with-requires
with-requires c =
    rw c.loop-key.invariant
    (one_more_rises c.args.pairs.now c.loop-key.key-index c.loop-key-item.result _ _ c.loop-key-test.true c.loop-key-item.is c.as_str.ensures c.as_str-in-loop-key.ensures (c.do_keys_rise.ensures.0 (search rules)))
