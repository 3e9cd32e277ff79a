use Rattle.std.proofs.Common.{ap}
use Rattle.std.specs.Prelude.{option_copied}
use Rattle.notes_core.proofs.Sent.{nothing_sent}
use Rattle.notes_core.proofs.send.write_next.Goals as goal

pub write_entry-requires : goal.write_entry-requires
write_entry-requires c = c.requires c.in-Some.entry.now (ap (λ o. option_copied o) c.in-Some.is)

pub returns-in-None : goal.returns-in-None
returns-in-None c = rw c.in-None.is nothing_sent
