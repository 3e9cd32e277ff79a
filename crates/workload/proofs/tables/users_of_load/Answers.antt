use Rattle.std.proofs.Common.{ap, ◌∙◌}
use Rattle.user_table.specs.Users.{table_of}
use Rattle.workload.proofs.OnlyMemory.{only_memory}
use Rattle.workload.proofs.tables.users_of_load.Goals as goal

pub memory_of-requires : goal.memory_of-requires
memory_of-requires c =
    only_memory _ _ c.in-Err.fault (ap table_of (c.as_slice.ensures ∙ c.in_ok-text.ensures))
    (c.users_are_read.ensures c.args.sessions c.requires) (rw c.in-Err.is at c.read.ensures)
