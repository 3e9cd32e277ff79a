use Rattle.std.proofs.Common.{◌∙◌}
use Rattle.route_table.proofs.RouteLemmas.{one_more, all_of_them}
use Rattle.route_table.proofs.routes.Routes.new.Goals as goal

pub loop-path-preserved : goal.loop-path-preserved
loop-path-preserved c =
    one_more c.paths-path-items.result.now c.loop-path.path-index _ c.loop-path.router c.insert.new.self
    c.loop-path-test.true c.loop-path.invariant c.in-Ok.ensures

pub invariant_of-result : goal.invariant_of-result
invariant_of-result c =
    c.loop-path.invariant ∙ all_of_them c.paths-path-items.result.now c.loop-path.path-index c.loop-path-test.false c.paths-path-items.ensures
