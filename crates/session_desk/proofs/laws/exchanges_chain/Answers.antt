use Rattle.session_desk.proofs.Chained.{exchanges_served}
use Rattle.session_desk.proofs.laws.exchanges_chain.Goals as goal

pub returns : goal.returns
returns g c = exchanges_served g.D.Desk.allows g.D.SessionDesk.keeps g.D.SessionDesk.answers g.met.D.SessionDesk.allowed g.met.D.SessionDesk.rows_stay
