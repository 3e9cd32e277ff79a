use Rattle.std.proofs.Common.{map, refl, inl, inr}
use Rattle.notes_serve.proofs.server.run_serve_notes.Goals as goal

pub returns-in-Ok : goal.returns-in-Ok
returns-in-Ok g c = record {
  unserved = refl;
  comes_to = inl (record {
    opened = g.H.Host.told c.open_ports.new.host;
    users = c.in-Ok.users;
    ports = map g.H.Port.PortOutside.told c.in-Ok.ports.items;
    opens = c.in-Ok.ensures.opens;
    returned = map g.H.Port.PortOutside.told c.serve_handed-outcome.new.ports.items;
    back = c.close_ports.ensures.back;
    outcome = c.serve_handed-outcome.result;
    served = c.serve_handed-outcome.ensures.serves;
    exit_is = c.close_ports.ensures.exit;
  });
}

pub returns-in-Err : goal.returns-in-Err
returns-in-Err g c = record { unserved = refl; comes_to = inr (c.in-Err.ensures.opens (g.L.Outside.told c.args.standard.now)) }
