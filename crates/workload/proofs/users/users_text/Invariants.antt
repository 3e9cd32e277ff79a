use Rattle.std.proofs.Common.{◌≡◌}
use Rattle.workload.specs.Users.{users_text}
use Rattle.workload.proofs.users.users_text.Given as goal

abbrev pub invariant-loop-place : goal.invariant-loop-place
invariant-loop-place l = l.bytes.items ≡ users_text l.place
