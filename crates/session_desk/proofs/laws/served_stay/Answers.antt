use Rattle.session_desk.proofs.Chained.{served_longer}
use Rattle.session_desk.proofs.laws.served_stay.Goals as goal

pub returns : goal.returns
returns g c = served_longer g.D.SessionDesk.answers g.met.D.SessionDesk.rows_stay
