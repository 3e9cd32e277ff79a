use Rattle.api_desk.proofs.Loads.{of_seed}
use Rattle.api_desk.proofs.load_events.events.Goals as goal

pub returns : goal.returns
returns c = of_seed (λ events. events.items) _ _ _ _ _ _ c.in_ok-users.ensures c.new.ensures c.events_of.ensures
