use Rattle.desk_serve.proofs.KeptWorking.{serves_kept}
use Rattle.desk_serve.proofs.laws.kept_ports_served.Goals as goal

pub returns : goal.returns
returns g c =
    serves_kept g.M.Machine.rules g.D.SessionDesk.answers g.T.Lines.text g.V.Device.moment g.V.Device.left_since g.V.Device.faults
    c.kept_links_chain.ensures c.kept_stay.ensures c.points_are_consistent.ensures
