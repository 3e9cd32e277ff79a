use Rattle.osm_world.proofs.Planned.{IsPlanned, planned_more}
use Rattle.osm_world.proofs.plans.lay_all.Goals as goal

pub loop-operation-preserved : goal.loop-operation-preserved
loop-operation-preserved c =
    let now : IsPlanned c.args.map.now.elements c.loop-operation.map c.loop-operation.ids c.loop-operation.keys.items c.loop-operation.beds.items c.args.operations.now c.loop-operation.operation-index
    = record {
      same = c.loop-operation.invariant.same;
      ids_are = c.loop-operation.invariant.ids;
      keys = c.loop-operation.invariant.keys;
      long = c.loop-operation.invariant.long;
      beds = c.loop-operation.invariant.beds;
      versions = c.loop-operation.invariant.versions;
      users = c.loop-operation.invariant.users;
      cells = c.loop-operation.invariant.cells;
    } in
    let laid = c.in_ok-ids.ensures.laid in
    let p = planned_more c.args.map.now.elements c.loop-operation.map c.lay_next.new.map c.loop-operation.ids c.in_ok-ids.ids c.loop-operation.keys.items c.lay_next.new.keys.items c.loop-operation.beds.items c.lay_next.new.beds.items c.args.operations.now c.loop-operation.operation-index c.operation-item.result laid.0
    c.loop-operation-test.true
    c.operation-item.is
    now
    c.lay_next.ensures.same
    c.in_ok-ids.ensures.next
    laid.2
    laid.3
    laid.1
    laid.4
    laid.5
    laid.6 in
    record { same = p.same; ids = p.ids_are; keys = p.keys; long = p.long; beds = p.beds; versions = p.versions; users = p.users; cells = p.cells }
