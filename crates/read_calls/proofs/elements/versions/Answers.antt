use Rattle.std.proofs.Common.{◌+◌, add-one, rules}
use Rattle.osm_model.specs.Reads.{shown, is_shown}
use Rattle.read_calls.proofs.Steps.{told_ids_step}
use Rattle.read_calls.proofs.elements.versions.Goals as goal

pub loop-place-preserved : goal.loop-place-preserved
loop-place-preserved c =
    told_ids_step (shown c.args.key) (is_shown c.args.store.now.elements c.args.key c.args.show) c.loop-place.found.items c.add_version.new.found.items c.loop-place.place (c.loop-place.place + 1) (add-one c.loop-place.place) c.loop-place.invariant (search rules)
