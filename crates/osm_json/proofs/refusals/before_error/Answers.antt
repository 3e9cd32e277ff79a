use Rattle.osm_json.specs.Refused.{before_error}
use Rattle.osm_json.proofs.refusals.before_error.Goals as goal

pub returns-in-Full : goal.returns-in-Full
unfolding before_error
returns-in-Full c = rw c.in-Full.is c.members-in-Full.ensures

pub returns-in-BoxTooLarge : goal.returns-in-BoxTooLarge
unfolding before_error
returns-in-BoxTooLarge c = rw c.in-BoxTooLarge.is c.members-in-BoxTooLarge.ensures
