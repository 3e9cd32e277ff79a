use Rattle.std.proofs.Common.{◌≡◌, false, take}
use Rattle.std.specs.List.{list_any}
use Rattle.rising_lists.specs.Ids.{lists_id}
use Rattle.plain_reads.proofs.met.way_lists.Given as goal

abbrev pub invariant-loop-node : goal.invariant-loop-node
invariant-loop-node l = list_any (λ node. lists_id l.ids node) (take l.node-index l.nodes) ≡ false
