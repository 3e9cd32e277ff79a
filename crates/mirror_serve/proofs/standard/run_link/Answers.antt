use Rattle.std.proofs.Common.{inl, inr}
use Rattle.mirror_serve.proofs.standard.run_link.Goals as goal

pub returns-in-Ok : goal.returns-in-Ok
returns-in-Ok g c =
    let accepts = c.in-Ok.ensures in
    record {
      keeps = accepts.keeps;
      comes_to = inl (record { text = accepts.text; told = accepts.told; users = c.in-Ok.users; table = accepts.table; served = c.serve_from.ensures });
    }

pub returns-in-Err : goal.returns-in-Err
returns-in-Err g c =
    let lacks = c.in-Err.ensures (g.L.Outside.told c.args.standard.now) in
    record { keeps = lacks.keeps; comes_to = inr lacks.comes_to }
