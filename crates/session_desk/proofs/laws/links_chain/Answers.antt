use Rattle.session_desk.proofs.Chained.{links_served}
use Rattle.session_desk.proofs.laws.links_chain.Goals as goal

pub returns : goal.returns
returns g c = links_served g.D.SessionDesk.answers g.met.D.SessionDesk.rows_stay
