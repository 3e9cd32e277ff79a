use Rattle.std.proofs.Common.{◌≡◌, ◌++◌, reverse, vec_len}
use Rattle.entry_file.proofs.keeping.keep_all.Given as goal

-- what is kept is the entries before those that are left
abbrev pub invariant-entries : goal.invariant-entries
invariant-entries g l =
    g.K.Keeper.kept l.fn.keeper ++ l.fn.read.items ≡ g.K.Keeper.kept l.keeper ++ reverse l.read.items

abbrev pub decreases-entries : goal.decreases-entries
decreases-entries g l = vec_len l.read
