use Rattle.osm_base.specs.declared.limits.TheConstants.{SESSION_LIMIT}
use Rattle.kept_serve.proofs.GoesOn.{few_sessions}
use Rattle.kept_serve.proofs.seats.sessions_of.Goals as goal

pub returns-clause-few : goal.returns-clause-few
returns-clause-few g c = few_sessions g.M.Machine.rules.tag_of SESSION_LIMIT c.args.journal.now c.sessions.result c.requires c.sessions.ensures.least
