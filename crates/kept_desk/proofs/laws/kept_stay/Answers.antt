use Rattle.kept_desk.proofs.Told.{told_stay}
use Rattle.kept_desk.proofs.laws.kept_stay.Goals as goal

pub returns : goal.returns
returns g c = told_stay g.D.SessionDesk.answers g.met.D.SessionDesk.rows_stay
