use Rattle.kept_desk.proofs.Told.{told_chain}
use Rattle.kept_desk.proofs.laws.told_chain.Goals as goal

pub returns : goal.returns
returns g c = told_chain g.D.SessionDesk.answers g.met.D.SessionDesk.rows_stay
