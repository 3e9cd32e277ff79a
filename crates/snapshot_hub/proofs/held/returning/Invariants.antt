use Rattle.std.proofs.Common.{◌≡◌, ℕ, length}
use Rattle.std.specs.Prelude.{IfSome, slice_get}
use Rattle.hub_core.specs.Journal.{calls_of}
use Rattle.snapshot_hub.specs.Known.{returner}
use Rattle.snapshot_hub.proofs.held.returning.Given as goal

abbrev pub invariant-loop-number : goal.invariant-loop-number
invariant-loop-number g l = record {
  count : length l.all.items ≡ l.number;
  back : (number : ℕ) → IfSome (slice_get l.all.items number) (λ s. s ≡ returner number l.fn.journal (calls_of g.M.Machine.rules.tag_of number l.fn.journal));
}
