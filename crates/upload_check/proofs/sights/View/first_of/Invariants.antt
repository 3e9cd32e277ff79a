use Rattle.std.proofs.Common.{◌≡◌, [], filter, take}
use Rattle.upload_check.specs.Overlay.{uses}
use Rattle.upload_check.proofs.sights.View.first_of.Given as goal

abbrev pub invariant-loop-key : goal.invariant-loop-key
invariant-loop-key l = filter (λ a. uses l.self a l.used) (take l.key-index l.keys) ≡ []
