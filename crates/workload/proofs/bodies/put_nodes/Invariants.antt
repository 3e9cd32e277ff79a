use Rattle.std.proofs.Common.{◌≡◌, ◌+◌, ◌-◌, ◌++◌}
use Rattle.workload.specs.Numbers.{number_after}
use Rattle.workload.specs.Upload.{nodes_text}
use Rattle.workload.proofs.bodies.put_nodes.Given as goal

abbrev pub invariant-loop-place : goal.invariant-loop-place
invariant-loop-place l =
    (l.bytes.items ++ nodes_text (10 - l.place) (l.place + 1) l.number ≡ l.fn.bytes.items ++ nodes_text 10 1 l.fn.number)
    × (number_after (10 - l.place) l.number ≡ number_after 10 l.fn.number)
