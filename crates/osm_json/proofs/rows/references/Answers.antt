use Rattle.osm_json.proofs.Growing.{◌⨾◌, becomes, none_left, no_references, references_text}
use Rattle.osm_json.proofs.rows.references.Goals as goal

pub returns-in_ok-piece-in-None : goal.returns-in_ok-piece-in-None
returns-in_ok-piece-in-None c = rw (none_left c.args.list.now c.in-None.ensures.cases) (becomes no_references c.in_ok-piece-in-None.ensures)

pub returns-in_ok-piece-in-Some-2 : goal.returns-in_ok-piece-in-Some-2
returns-in_ok-piece-in-Some-2 c =
    rw c.in-Some.ensures.cases.0
    (becomes (references_text c.in-Some.first.now c.in-Some.rest.now)
    (c.in_ok-piece-in-Some.ensures ⨾ c.in_ok-reference-in-Some.ensures ⨾ c.in_ok-later_references-in-Some.ensures ⨾ c.in_ok-piece-in-Some-2.ensures))
