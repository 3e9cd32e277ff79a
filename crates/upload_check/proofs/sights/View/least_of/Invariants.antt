use Rattle.std.proofs.Common.{◌≡◌, take}
use Rattle.upload_check.specs.Checks.{least_where}
use Rattle.upload_check.specs.Overlay.{uses}
use Rattle.upload_check.proofs.sights.View.least_of.Given as goal

abbrev pub invariant-loop-key : goal.invariant-loop-key
invariant-loop-key l = l.found ≡ least_where (λ a. uses l.self a l.used) (take l.key-index l.keys)
