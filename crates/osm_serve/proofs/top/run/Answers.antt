use Rattle.osm_serve.proofs.top.run.Goals as goal

pub returns : goal.returns
returns g c = record { exit = c.exit_of_run.result; comes = c.exit_of_run.ensures; status_is = c.status.ensures }
