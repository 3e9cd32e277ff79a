use Rattle.kept_desk.proofs.Told.{links_told}
use Rattle.kept_desk.proofs.laws.kept_links_chain.Goals as goal

pub returns : goal.returns
returns g c = links_told g.D.SessionDesk.answers g.met.D.SessionDesk.rows_stay
