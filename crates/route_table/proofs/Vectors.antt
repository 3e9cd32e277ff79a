-- Worked request lines.
use Rattle.std.proofs.Common.{◌≡◌, codes, Some, None, Ok, Err, refl}
use Rattle.std.specs.Prelude.{Bool, true, false, ◌&&◌, is_none, List, [], ◌∷◌, Result}
use Rattle.matchit.specs.Rows.{RowsOf}
use Rattle.matchit.specs.Route.{Scan, parse_route}
use Rattle.matchit.specs.Router.{RouteOf, nearest}
use Rattle.matchit.specs.declared.error.InsertError.{InsertError}
use Rattle.route_table.specs.declared.resources.Resource.{Resource}
use Rattle.matchit.proofs.OnLiterals.{matchit_on_literals}
use Rattle.percent_encoding.proofs.OnLiterals.{percent_encoding_on_literals}
use Rattle.osm_base.specs.Decimal.{area_of}
use Rattle.route_table.specs.Methods.{method_of}
use Rattle.route_table.specs.Paths.{Path, paths, routes, with_path}
use Rattle.route_table.specs.Parameters.{parameter_of}
use Rattle.route_table.specs.Calls.{call_at, call_of}
use Rattle.route_table.specs.declared.faults.RouteFault.TheVariants.{BadNumber, BadParameter}

escaped : parameter_of (codes "/api/0.6/notes?closed=%74rue&closed=x") (codes "closed") ≡ Some (codes "true")
unfolding percent_encoding_on_literals
escaped = refl

no_query : parameter_of (codes "/api/0.6/notes") (codes "closed") ≡ None
unfolding percent_encoding_on_literals
no_query = refl

map_without_box : call_of (codes "GET") (codes "/api/0.6/map") ≡ Err (BadParameter (codes "bbox"))
unfolding matchit_on_literals percent_encoding_on_literals area_of method_of paths routes call_at call_of
map_without_box = refl

-- pieces count from 1, and other words are no numbers
piece_0 : call_of (codes "GET") (codes "/api/0.6/replication/0") ≡ Err BadNumber
unfolding matchit_on_literals percent_encoding_on_literals area_of method_of paths routes call_at call_of
piece_0 = refl

piece_of_a_word : call_of (codes "GET") (codes "/api/0.6/replication/states") ≡ Err BadNumber
unfolding matchit_on_literals percent_encoding_on_literals area_of method_of paths routes call_at call_of
piece_of_a_word = refl

-- each path reads well and conflicts with none before it, so only want of memory keeps it out
goes_in : RowsOf (RouteOf Resource) → List Path → Bool
goes_in rows [] = true
goes_in rows (path ∷ rest) = reads (parse_route path.0) && goes_in (with_path rows path) rest
  where
    reads : Result Scan InsertError → Bool
    reads (Ok s) = is_none (nearest s.pattern rows)
    reads (Err e) = false

all_go_in : goes_in [] paths ≡ true
unfolding goes_in matchit_on_literals paths
all_go_in = refl
