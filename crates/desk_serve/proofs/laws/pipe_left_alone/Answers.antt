use Rattle.desk_serve.proofs.Closing.{pipe_left_alone}
use Rattle.desk_serve.proofs.laws.pipe_left_alone.Goals as goal

pub returns : goal.returns
returns g c users before after same =
    pipe_left_alone g.M.Machine.rules g.D.SessionDesk.answers users before after c.link_left_alone.ensures g.met.M.Machine.start_consistent same
