use Rattle.server_frame.proofs.standard.serve_from.Goals as goal

pub returns : goal.returns
returns g c = record {
  start = g.L.Outside.told c.start.new.link;
  started = c.start.ensures;
  end = c.serve.result;
  served = c.serve.ensures;
  exit_is = c.exit_of.ensures;
}
