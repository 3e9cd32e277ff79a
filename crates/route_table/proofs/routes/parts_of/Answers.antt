use Rattle.route_table.proofs.RouteLemmas.{taken_ascii, first_part, second_part}
use Rattle.route_table.proofs.routes.parts_of.Goals as goal

pub returns-in-Some-next-clause-id : goal.returns-in-Some-next-clause-id
returns-in-Some-next-clause-id c =
    let m = c.args.params.now in
    let ascii = taken_ascii m.pattern.now m.text.now m.path.now m.names.now 0 0 c.requires in
    let first = rw c.iter-parts.ensures.value at c.in-Some.ensures.steps in
    rw c.as_bytes.ensures.value (first_part _ _ first.0 c.in-Some.id.now ascii first.1 first.3)

pub returns-in-Some-next-clause-version : goal.returns-in-Some-next-clause-version
returns-in-Some-next-clause-version c =
    let m = c.args.params.now in
    let ascii = taken_ascii m.pattern.now m.text.now m.path.now m.names.now 0 0 c.requires in
    let first = rw c.iter-parts.ensures.value at c.in-Some.ensures.steps in
    let second = c.in-Some-next.ensures.steps in
    rw c.as_bytes-in-Some-next.ensures.value
    (second_part _ _ _ first.0 second.0 c.in-Some-next.version.now ascii first.1 second.1 second.3)

pub returns-in-None-clause-id : goal.returns-in-None-clause-id
returns-in-None-clause-id c =
    let m = c.args.params.now in
    let ascii = taken_ascii m.pattern.now m.text.now m.path.now m.names.now 0 0 c.requires in
    let first = rw c.iter-parts.ensures.value at c.in-Some.ensures.steps in
    rw c.as_bytes-in-None.ensures.value (first_part _ _ first.0 c.in-Some.id.now ascii first.1 first.3)
