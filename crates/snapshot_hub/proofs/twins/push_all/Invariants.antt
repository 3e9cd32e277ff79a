use Rattle.std.proofs.Common.{◌≡◌, ◌++◌, reverse, vec_len}
use Rattle.snapshot_hub.proofs.twins.push_all.Given as goal

-- the journal has the entries before those that are left
abbrev pub invariant-entries : goal.invariant-entries
invariant-entries g l = l.fn.journal ++ l.fn.entries.items ≡ l.journal ++ reverse l.entries.items

abbrev pub decreases-entries : goal.decreases-entries
decreases-entries g l = vec_len l.entries
