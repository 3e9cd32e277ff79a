use Rattle.std.proofs.Common.{[], ◌<◌, ◌∙◌, length, arith, refl}
use Rattle.osm_base.specs.declared.limits.TheConstants.{REQUEST_LIMIT}
use Rattle.http_link.specs.Exchange.{Telling}
use Rattle.http_link.proofs.ServesLemmas.{over, answered, no_turn, unserved, no_more}
use Rattle.http_link.proofs.link.serve_desk.Goals as goal

pub requests-init : goal.requests-init
requests-init g c =
    let none = no_turn c.args.body_limit (Telling g.D.Desk.allows g.D.Desk.tells g.D.Desk.shows) _ _ in
    (c.in-Ok.ensures.open, c.in-Ok.ensures.body_limit, ([], rw c.in-Ok.ensures.kept none, tt, refl, tt))

pub returns-in_default-clause-told : goal.returns-in_default-clause-told
returns-in_default-clause-told g c =
    unserved c.args.body_limit (c.bytes_tell_the_end.ensures c.args.body_limit) g.D.Desk.allows g.D.Desk.tells g.D.Desk.shows g.D.Desk.withholds _ _

pub returns-in_default-clause-serves : goal.returns-in_default-clause-serves
returns-in_default-clause-serves g c = (returns-in_default-clause-told g c).serves

pub returns-in-Over-clause-told : goal.returns-in-Over-clause-told
returns-in-Over-clause-told g c =
    let so_far = c.requests.invariant.2 in
    let room : length so_far.0 < REQUEST_LIMIT = omega (arith, so_far.3, c.requests-test.true) in
    let turn = rw (c.requests.invariant.1, ← so_far.3) at c.in-Over.ensures.turn in
    over c.args.body_limit (c.bytes_tell_the_end.ensures c.args.body_limit) g.D.Desk.allows g.D.Desk.tells g.D.Desk.shows g.D.Desk.withholds _ _ _ _ _ _ _ _ so_far.0 so_far.1 so_far.2 so_far.4 room c.in-Over.end turn

pub returns-in-Over-clause-serves : goal.returns-in-Over-clause-serves
returns-in-Over-clause-serves g c = (returns-in-Over-clause-told g c).serves

pub requests-preserved : goal.requests-preserved
requests-preserved g c =
    let so_far = c.requests.invariant.2 in
    let room : length so_far.0 < REQUEST_LIMIT = omega (arith, so_far.3, c.requests-test.true) in
    let turn = rw (c.requests.invariant.1, ← so_far.3) at c.in-GoesOn.ensures.turn in
    let all = answered c.args.body_limit (c.bytes_tell_the_end.ensures c.args.body_limit) g.D.Desk.allows g.D.Desk.tells g.D.Desk.shows g.D.Desk.withholds _ _ _ _ _ _ _ _ so_far.0 so_far.1 so_far.2 so_far.4 room turn in
    (c.in-GoesOn.ensures.going_on refl, c.in-GoesOn.ensures.body_limit ∙ c.requests.invariant.1, (all.0, all.1, all.2, omega (arith, all.3, so_far.3), all.4))

pub returns-clause-told : goal.returns-clause-told
returns-clause-told g c =
    let so_far = c.requests.invariant.2 in
    no_more c.args.body_limit (c.bytes_tell_the_end.ensures c.args.body_limit) g.D.Desk.allows g.D.Desk.tells g.D.Desk.shows g.D.Desk.withholds _ _ _ _ _ so_far.0 so_far.1 so_far.2
    (omega (arith, so_far.3, c.requests-test.false)) so_far.4

pub returns-clause-serves : goal.returns-clause-serves
returns-clause-serves g c = (returns-clause-told g c).serves
