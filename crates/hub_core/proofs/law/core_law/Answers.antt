use Rattle.hub_core.specs.Core.{core_after}
use Rattle.hub_core.proofs.Soundness.{sound_after, grows_step}
use Rattle.hub_core.proofs.law.core_law.Goals as goal

pub returns-clause-sound : goal.returns-clause-sound
returns-clause-sound g c count events =
    let M = g.met.M.Machine in
    sound_after g.M.Machine.rules M.start_consistent M.after_consistent M.entry_taken count events

pub returns-clause-grows : goal.returns-clause-grows
returns-clause-grows g c count events event =
    let M = g.met.M.Machine in
    grows_step g.M.Machine.rules (core_after g.M.Machine.rules count events) event (sound_after g.M.Machine.rules M.start_consistent M.after_consistent M.entry_taken count events)
