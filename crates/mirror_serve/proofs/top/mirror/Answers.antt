use Rattle.mirror_serve.proofs.top.mirror.Goals as goal

pub returns : goal.returns
returns g c = record { exit = c.exit_of_mirror.result; comes = c.exit_of_mirror.ensures; status_is = c.status.ensures }
