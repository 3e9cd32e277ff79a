use Rattle.std.proofs.Common.{◌≡◌, Some, refl, subst}
use Rattle.std.specs.Option.{option_copied}
use Rattle.matchit.specs.Rows.{RowsOf}
use Rattle.matchit.specs.Router.{RouteOf}
use Rattle.matchit.specs.Seek.{first}
use Rattle.route_table.specs.declared.resources.Resource.{Resource}
use Rattle.route_table.proofs.RouteLemmas.{found_details}
use Rattle.route_table.proofs.routes.Routes.find.Goals as goal

pub returns-in-Ok : goal.returns-in-Ok
returns-in-Ok c =
    let m = c.in-Ok.found.params in
    let path = c.args.path.now in
    let route : RouteOf Resource = record { pattern = m.pattern.now; text = m.text.now; names = m.names.now; value = c.in-Ok.found.value.now } in (
      route,
      subst (λ (rows : RowsOf (RouteOf Resource)). first rows path ≡ Some route) c.self.invariant c.in-Ok.ensures.found,
      refl,
      found_details m path c.parts_of.result.0.now c.parts_of.result.1.now (option_copied c.args.query) c.in-Ok.found.value.now
          c.in-Ok.ensures.path c.parts_of.ensures.id c.parts_of.ensures.version,
    )
