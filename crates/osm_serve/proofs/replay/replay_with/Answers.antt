use Rattle.std.proofs.Common.{inr, []}
use Rattle.osm_serve.proofs.Replaying.{told}
use Rattle.osm_serve.proofs.replay.replay_with.Goals as goal

pub returns-in-Ok : goal.returns-in-Ok
returns-in-Ok g c = told _ _ _ _ _ _ (rw c.in-Ok.is at c.read_entries.ensures) c.book.ensures.book c.tell_of.ensures

pub returns-in-Err : goal.returns-in-Err
returns-in-Err g c = inr (record { journal = []; fault = c.in-Err.fault; read = rw c.in-Err.is at c.read_entries.ensures; exit_is = c.exit_of_input.ensures })
