use Rattle.osm_base.specs.declared.keys.Kind.TheVariants.{Node}
use Rattle.osm_base.specs.declared.keys.Key.{Key}
use Rattle.osm_world.specs.World.{state_of}
use Rattle.upload_check.proofs.Walks.{walk_start, walk_next, walk_some, walk_ready}
use Rattle.upload_check.proofs.shifts.shift_each.Goals as goal

abbrev no_key : Key
no_key = record { kind = Node; id = 0 }

pub loop-place-init : goal.loop-place-init
loop-place-init c = walk_start c.args.shift (state_of c.args.world.now).elements c.args.user c.args.listed.now c.args.left.now c.args.standings.now

pub shift_unless-requires : goal.shift_unless-requires
shift_unless-requires c =
    walk_some c.args.shift (state_of c.args.world.now).elements c.args.user c.args.listed.now c.args.left.now c.loop-place.place no_key c.args.standings.now c.loop-place.standings c.is_kept-stays.result
    c.loop-place-test.true c.requires.rising c.is_kept-stays.ensures c.requires.some c.loop-place.invariant

pub loop-place-preserved : goal.loop-place-preserved
loop-place-preserved c =
    walk_next c.args.shift (state_of c.args.world.now).elements c.args.user c.args.listed.now c.args.left.now c.loop-place.place no_key c.args.standings.now c.loop-place.standings c.shift_unless.new.standings c.is_kept-stays.result
    c.loop-place-test.true c.requires.rising c.is_kept-stays.ensures c.loop-place.invariant c.in-Ok.ensures.shifted

pub returns-in-Err-clause-sure : goal.returns-in-Err-clause-sure
returns-in-Err-clause-sure c = λ ready.
    c.in-Err.ensures.sure
    (walk_ready c.args.shift (state_of c.args.world.now).elements c.args.user c.args.listed.now c.args.left.now c.loop-place.place no_key c.args.standings.now c.loop-place.standings c.is_kept-stays.result
    c.loop-place-test.true c.requires.rising c.is_kept-stays.ensures ready c.loop-place.invariant)
