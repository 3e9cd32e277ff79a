use Rattle.desk_serve.proofs.KeptJoined.{kept_joined}
use Rattle.desk_serve.proofs.laws.kept_links_join.Goals as goal

pub returns : goal.returns
returns g c = kept_joined g.M.Machine.rules g.D.SessionDesk.answers c.kept_links_chain.ensures
