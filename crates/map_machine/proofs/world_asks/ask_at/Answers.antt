use Rattle.osm_model.specs.Past.{full_at}
use Rattle.osm_model.specs.Reads.{ways_of, relations_of}
use Rattle.osm_world.specs.World.{state_of}
use Rattle.map_machine.proofs.world_asks.ask_at.Goals as goal

pub returns-in-FullAt : goal.returns-in-FullAt
returns-in-FullAt g c =
    rw c.in-FullAt.is (c.read_answer-in-FullAt.ensures (full_at (state_of c.args.world.now) c.in-FullAt.key c.in-FullAt.then) c.full_at.ensures)

pub returns-in-WaysOf : goal.returns-in-WaysOf
returns-in-WaysOf g c =
    rw c.in-WaysOf.is (c.users_answer.ensures (ways_of (state_of c.args.world.now).elements c.in-WaysOf.id) c.ways_of.ensures)

pub returns-in-RelationsOf : goal.returns-in-RelationsOf
returns-in-RelationsOf g c =
    rw c.in-RelationsOf.is (c.users_answer-in-RelationsOf.ensures (relations_of (state_of c.args.world.now).elements c.in-RelationsOf.key) c.relations_of.ensures)
