use Rattle.osm_json.proofs.Growing.{becomes, shown_is, hidden_is}
use Rattle.osm_json.proofs.elements.ending.Goals as goal

pub returns-in_ok-piece-in-Some : goal.returns-in_ok-piece-in-Some
returns-in_ok-piece-in-Some c = rw (← c.in-Some.ensures) (becomes shown_is c.in_ok-piece-in-Some.ensures)

pub returns-in_ok-piece-in-None : goal.returns-in_ok-piece-in-None
returns-in_ok-piece-in-None c = rw (← c.in-None.ensures) (becomes hidden_is c.in_ok-piece-in-None.ensures)
