use Rattle.osm_json.proofs.Growing.{◌⨾◌, becomes, none_left, no_nodes, nodes_text}
use Rattle.osm_json.proofs.rows.nodes.Goals as goal

pub returns-in_ok-piece-in-None : goal.returns-in_ok-piece-in-None
returns-in_ok-piece-in-None c = rw (none_left c.args.ids.now c.in-None.ensures.cases) (becomes no_nodes c.in_ok-piece-in-None.ensures)

pub returns-in_ok-piece-in-Some : goal.returns-in_ok-piece-in-Some
returns-in_ok-piece-in-Some c =
    rw c.in-Some.ensures.cases.0
    (becomes (nodes_text c.in-Some.first.now c.in-Some.rest.now) (c.in_ok-natural-in-Some.ensures ⨾ c.in_ok-later_nodes-in-Some.ensures ⨾ c.in_ok-piece-in-Some.ensures))
