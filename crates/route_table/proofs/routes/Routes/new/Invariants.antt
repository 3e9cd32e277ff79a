use Rattle.std.proofs.Common.{◌≡◌, [], map, take}
use Rattle.std.specs.List.{fold}
use Rattle.route_table.specs.Paths.{with_path}
use Rattle.route_table.proofs.routes.Routes.new.Given as goal

abbrev pub invariant-loop-path : goal.invariant-loop-path
invariant-loop-path l = l.router ≡ fold with_path [] (take l.path-index (map (λ row. (row.0.now, row.1)) l.path-items))
