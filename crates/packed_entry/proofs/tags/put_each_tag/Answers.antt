use Rattle.std.proofs.Common.{◌<◌, [], arith, length}
use Rattle.packed_entry.specs.Typed.{IsTag}
use Rattle.packed_entry.specs.Packed.{packed_tag}
use Rattle.packed_entry.proofs.Puts.{one_more, all_of}
use Rattle.packed_entry.proofs.tags.put_each_tag.Goals as goal

pub loop-index-preserved : goal.loop-index-preserved
loop-index-preserved c =
    let within : c.loop-index.index < length c.args.tags.now = omega arith in
    one_more packed_tag IsTag _ _ _ c.args.tags.now c.loop-index.index ([], []) (c.pair.result.0.now, c.pair.result.1.now) within c.pair.ensures c.in_ok-put_tag.ensures.bytes c.in_ok-put_tag.ensures.typed c.loop-index.invariant

pub returns-clause-bytes : goal.returns-clause-bytes
returns-clause-bytes c = (all_of packed_tag IsTag c.args.out.now.items c.loop-index.out.items c.args.tags.now c.loop-index.index (omega arith) c.loop-index.invariant).bytes

pub returns-clause-typed : goal.returns-clause-typed
returns-clause-typed c = (all_of packed_tag IsTag c.args.out.now.items c.loop-index.out.items c.args.tags.now c.loop-index.index (omega arith) c.loop-index.invariant).typed
