use Rattle.std.proofs.Common.{length}
use Rattle.api_desk.proofs.Loads.{IsUnderway}
use Rattle.api_desk.proofs.load_events.events_in.Given as goal

abbrev pub invariant-requests : goal.invariant-requests
invariant-requests l = IsUnderway l.users l.fn.load l.load l.events.items

abbrev pub decreases-requests : goal.decreases-requests
decreases-requests l = length l.load
