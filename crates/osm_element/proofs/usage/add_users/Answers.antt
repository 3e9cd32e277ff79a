use Rattle.std.proofs.Common.{◌+◌, rules, add-one}
use Rattle.osm_element.proofs.UserSteps.{users_step}
use Rattle.osm_element.proofs.usage.add_users.Goals as goal

pub loop-place-preserved : goal.loop-place-preserved
loop-place-preserved c = users_step c.args.elements.now c.args.kind c.args.used c.args.found.now.items c.loop-place.found.items c.add_user.new.found.items c.loop-place.place (c.loop-place.place + 1) (add-one c.loop-place.place) c.loop-place.invariant (search rules)
