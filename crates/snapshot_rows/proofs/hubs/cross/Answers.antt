use Rattle.std.proofs.Common.{[], append-nil}
use Rattle.snapshot_rows.proofs.hubs.cross.Goals as goal

-- the plan was made on all that its session had seen then
pub commit-requires-clause-made : goal.commit-requires-clause-made
commit-requires-clause-made g c =
    (c.plan.new.self.front, c.args.wish, ([], append-nil c.plan.new.self.front), c.in_ok-plan.ensures.planned)
