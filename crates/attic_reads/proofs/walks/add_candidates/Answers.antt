use Rattle.std.proofs.Common.{◌<◌, length, rules}
use Rattle.osm_base.specs.declared.keys.Kind.TheVariants.{Node}
use Rattle.osm_element.specs.Elements.{key}
use Rattle.osm_world.specs.World.{state_of}
use Rattle.attic_reads.proofs.Near.{candidates-more}
use Rattle.attic_reads.proofs.walks.add_candidates.Goals as goal

pub loop-used-preserved : goal.loop-used-preserved
loop-used-preserved c =
    let within : c.loop-used.used-index < length c.args.among.now = search rules in
    candidates-more (state_of c.args.world.now).elements c.args.kind c.args.among.now c.args.found.now.items c.loop-used.found.items c.add_users.new.found.items c.loop-used.used-index (key Node 0) within
    c.loop-used.invariant
    c.in_ok-add_users.ensures
