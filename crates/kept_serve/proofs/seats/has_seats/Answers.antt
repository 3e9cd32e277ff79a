use Rattle.std.proofs.Common.{arith}
use Rattle.std.proofs.lemmas.Bool.{leb-true, le-leb}
use Rattle.osm_base.specs.declared.limits.TheConstants.{SESSION_LIMIT}
use Rattle.kept_serve.proofs.GoesOn.{few_sessions}
use Rattle.kept_serve.proofs.seats.has_seats.Goals as goal

pub returns : goal.returns
returns g c = (
  λ yes session past. c.sessions.ensures.past session (omega (arith, leb-true c.sessions.result SESSION_LIMIT yes, past)),
  λ seated. le-leb c.sessions.result SESSION_LIMIT (few_sessions g.M.Machine.rules.tag_of SESSION_LIMIT c.args.journal.now c.sessions.result seated c.sessions.ensures.least),
)
