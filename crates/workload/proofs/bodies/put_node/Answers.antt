use Rattle.workload.proofs.PutLemmas.{on_ok, node_put}
use Rattle.workload.proofs.bodies.put_node.Goals as goal

pub returns : goal.returns
returns c =
    on_ok c.put.result
    (node_put c.args.id c.args.number c.lat7_of.result c.lon7_of.result c.args.bytes.now.items _ _ _ c.put.new.bytes.items
    c.lat7_of.ensures c.lon7_of.ensures c.in_ok-put_with_number.ensures c.in_ok-put_with_number-2.ensures c.in_ok-put_with_number-3.ensures)
    c.put.ensures
