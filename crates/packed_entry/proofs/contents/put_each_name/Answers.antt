use Rattle.osm_change.specs.Referents.{Fits}
use Rattle.packed_entry.specs.Packed.{packed_name}
use Rattle.packed_entry.proofs.Puts.{one_more, all_of}
use Rattle.packed_entry.proofs.contents.put_each_name.Goals as goal

pub loop-name-preserved : goal.loop-name-preserved
loop-name-preserved c =
    one_more packed_name Fits _ _ _ c.args.names.now c.loop-name.name-index c.name-item.result c.name-item.result c.loop-name-test.true c.name-item.is c.in_ok-put_name.ensures.bytes c.in_ok-put_name.ensures.typed c.loop-name.invariant

pub returns-clause-bytes : goal.returns-clause-bytes
returns-clause-bytes c = (all_of packed_name Fits c.args.out.now.items c.loop-name.out.items c.args.names.now c.loop-name.name-index c.loop-name-test.false c.loop-name.invariant).bytes

pub returns-clause-typed : goal.returns-clause-typed
returns-clause-typed c = (all_of packed_name Fits c.args.out.now.items c.loop-name.out.items c.args.names.now c.loop-name.name-index c.loop-name-test.false c.loop-name.invariant).typed
