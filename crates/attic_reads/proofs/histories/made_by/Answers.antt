use Rattle.std.proofs.Common.{rules}
use Rattle.std.proofs.lemmas.List.Sorted.{IsPartitionPoint-from_clause, IsPartitionedBy-leb}
use Rattle.osm_model.specs.Past.{was_made}
use Rattle.osm_model.specs.Stamped.{stamp_of}
use Rattle.attic_reads.proofs.Cut.{front-passes}
use Rattle.attic_reads.proofs.histories.made_by.Goals as goal

pub returns : goal.returns
returns c =
    let parted = IsPartitionedBy-leb stamp_of _ c.args.at c.requires in
    let point = IsPartitionPoint-from_clause (was_made c.args.at) _ _ c.partition_point-made.ensures.partitioned parted (λ a r q k. search rules) in
    front-passes (was_made c.args.at) c.args.history.now c.partition_point-made.result point.0 point.1
