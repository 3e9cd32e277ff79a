use Rattle.std.proofs.Common.{sym, ◌∙◌}
use Rattle.workload.proofs.UserLemmas.{users_text-none, users_more}
use Rattle.workload.proofs.users.users_text.Goals as goal

pub loop-place-init : goal.loop-place-init
loop-place-init c = c.in_ok-bytes.ensures.items ∙ sym users_text-none

pub loop-place-preserved : goal.loop-place-preserved
loop-place-preserved c = users_more c.loop-place.place _ _ c.loop-place.invariant c.in_ok-put_line.ensures
