use Rattle.std.proofs.Common.{◌≡◌, ℕ, [], ◌∙◌, subst}
use Rattle.std.specs.Prelude.{IfOk, IfSome, slice_get}
use Rattle.hub_core.specs.Journal.{calls_of}
use Rattle.snapshot_hub.specs.Known.{returner}
use Rattle.snapshot_hub.proofs.hub.Hub.new.Goals as goal

-- who returns to no entries is new
pub returns-clause-fresh : goal.returns-clause-fresh
returns-clause-fresh g c =
    subst (λ journal. IfOk c.begin.result (λ r. (number : ℕ) → IfSome (slice_get r.1.items number)
    (λ s. s ≡ returner number journal (calls_of g.M.Machine.rules.tag_of number journal))))
    (c.of-twins.ensures ∙ c.new-journal.ensures) c.begin.ensures.back
