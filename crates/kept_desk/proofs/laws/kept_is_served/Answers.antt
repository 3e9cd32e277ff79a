use Rattle.kept_desk.proofs.Sendings.{in_sendings}
use Rattle.kept_desk.proofs.Told.{served_of}
use Rattle.kept_desk.proofs.laws.kept_is_served.Goals as goal

pub returns-clause-served : goal.returns-clause-served
returns-clause-served g c = served_of g.D.SessionDesk.answers

pub returns-clause-same : goal.returns-clause-same
returns-clause-same g c = in_sendings
