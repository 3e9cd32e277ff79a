use Rattle.std.proofs.Common.{sym, ap}
use Rattle.osm_change.specs.Build.{local}
use Rattle.osm_change.proofs.Placed.{checked-placed}
use Rattle.osm_change.proofs.build.local_cause.Goals as goal

pub returns-in-Ok-clause-value : goal.returns-in-Ok-clause-value
returns-in-Ok-clause-value c = ap local c.in-Ok.ensures

pub returns-in-Ok-clause-placed : goal.returns-in-Ok-clause-placed
returns-in-Ok-clause-placed c = checked-placed c.args.tags.now c.args.content.now (sym c.in-Ok.ensures)

pub returns-in-Err-clause-value : goal.returns-in-Err-clause-value
returns-in-Err-clause-value c = ap local c.in-Err.ensures

pub returns-in-Err-clause-placed : goal.returns-in-Err-clause-placed
returns-in-Err-clause-placed c = tt
