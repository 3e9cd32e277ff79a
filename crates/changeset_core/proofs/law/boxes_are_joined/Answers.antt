use Rattle.changeset_core.proofs.Boxes.{join-assoc, widen_all-is}
use Rattle.changeset_core.proofs.law.boxes_are_joined.Goals as goal

pub returns-clause-positions : goal.returns-clause-positions
returns-clause-positions c = widen_all-is

pub returns-clause-grouping : goal.returns-clause-grouping
returns-clause-grouping c = join-assoc
