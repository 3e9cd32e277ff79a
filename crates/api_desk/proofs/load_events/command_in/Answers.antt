use Rattle.std.proofs.Common.{inl}
use Rattle.api_desk.proofs.Loads.{of_message}
use Rattle.api_desk.proofs.load_events.command_in.Goals as goal

pub returns-in-Some : goal.returns-in-Some
returns-in-Some c = of_message _ _ _ _ (rw c.in-Some.is at c.in_ok-message.ensures) c.work_in.ensures

pub returns-in-None : goal.returns-in-None
returns-in-None c = inl (rw c.in-None.is at c.in_ok-message.ensures)
