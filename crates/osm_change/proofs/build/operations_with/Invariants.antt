use Rattle.std.specs.Vec.Iter.{into_iter_items}
use Rattle.osm_change.proofs.Reading.{IsReading}
use Rattle.osm_change.proofs.build.operations_with.Given as goal

abbrev pub invariant-loop-op : goal.invariant-loop-op
invariant-loop-op l =
    (goal.iterator-loop-op).can_next l.op-iterator
    × (goal.iterator-loop-op).is_finite l.op-iterator
    × IsReading l.fn.raw.items l.yielded (into_iter_items l.op-iterator) l.placeholders l.operations.items l.place
