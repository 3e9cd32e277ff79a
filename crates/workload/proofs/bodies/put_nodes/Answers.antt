use Rattle.std.proofs.Common.{arith}
use Rattle.workload.proofs.NodeLemmas.{nodes_more, nodes_done, number_more, number_done}
use Rattle.workload.proofs.bodies.put_nodes.Goals as goal

pub loop-place-preserved : goal.loop-place-preserved
loop-place-preserved c = (
  nodes_more c.loop-place.place c.loop-place.number c.next_number-number.result _ _ _ (omega arith) c.next_number-number.ensures
      c.in_ok-put_node.ensures c.loop-place.invariant.0,
  number_more c.loop-place.place c.loop-place.number c.next_number-number.result _ (omega arith) c.next_number-number.ensures
      c.loop-place.invariant.1,
)

pub returns-clause-nodes : goal.returns-clause-nodes
returns-clause-nodes c = nodes_done c.loop-place.place c.loop-place.number _ _ (omega arith) c.loop-place.invariant.0

pub returns-clause-last : goal.returns-clause-last
returns-clause-last c = number_done c.loop-place.place c.loop-place.number _ (omega arith) c.loop-place.invariant.1
