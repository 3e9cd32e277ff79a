use Rattle.map_machine.proofs.Copies.{one_more_copied}
use Rattle.map_machine.proofs.copied.CopiedRows.of.Goals as goal

pub loop-row-preserved : goal.loop-row-preserved
loop-row-preserved c =
    one_more_copied c.args.rows.now c.loop-row.row-index c.loop-row.tags c.loop-row.owners.items c.loop-row.copied.items _ c.copied_row.new.lists c.copied_row.new.owners.items _ c.push.new.self.items
    c.loop-row-test.true c.row-item.is c.loop-row.invariant c.in_ok-copied_row.ensures c.in_ok-push.ensures.items
