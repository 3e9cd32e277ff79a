-- The table of routes may go to another thread, and be read there: so may each node of the router's tree.
use denote.Param.Send.{sendable, IsSend, IsSync}
use Rattle.route_table.specs.contracts.routes.Routes as Routes
use Rattle.matchit.proofs.route.Route.TheSendSync as Route
use Rattle.matchit.proofs.tree.Node.TheLaws.TheKnot as Knot
use Rattle.route_table.proofs.resources.Resource.TheSendSync as Resource
use Rattle.matchit.below.slab.proofs.Slab.TheSendSync as Slab
use Rattle.std.proofs.option.Option.TheSendSync as Option
use Rattle.std.proofs.alloc.Global.TheSendSync as Global
use Rattle.std.proofs.vec.Vec.TheSendSync as Vec
use Rattle.std.proofs.Crossing as Crossing

pub routes_send : IsSend Routes.the_row
routes_send =
    search (Route.the_send, Knot.crosses, Resource.the_send, Option.the_send, Option.the_field_send, Slab.the_send, Vec.the_send, Global.the_send, Global.the_field_send, Crossing.crosses, sendable) parts 8 depth 60 fits 20000

pub routes_sync : IsSync Routes.the_row
routes_sync =
    search (Route.the_sync, Knot.crosses, Resource.the_sync, Option.the_sync, Option.the_field_sync, Slab.the_sync, Vec.the_sync, Global.the_sync, Global.the_field_sync, Crossing.crosses, sendable) parts 8 depth 60 fits 20000
