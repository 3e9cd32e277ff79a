use Rattle.osm_change.proofs.WellFormed.{built-well_formed}
use Rattle.osm_change.proofs.changes.Change.build.Goals as goal

pub of-requires : goal.of-requires
of-requires c = built-well_formed c.args.raw.items c.in_ok-operations.operations c.requires c.in_ok-operations.ensures
