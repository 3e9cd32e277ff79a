use Rattle.std.proofs.Common.{refl, inl, inr, subst, sym}
use Rattle.osm_serve.specs.Export.{IsExport}
use Rattle.osm_serve.proofs.export.export.Goals as goal

pub returns-in-Ok : goal.returns-in-Ok
returns-in-Ok g c =
    inl (record {
      text = c.as_slice.result.now;
      fitting = subst (IsExport c.args.load.seed c.args.load.sessions c.args.load.uploads) (sym c.as_slice.ensures) c.in-Ok.ensures;
      writes = c.tell.ensures;
    })

pub returns-in-Err : goal.returns-in-Err
returns-in-Err g c = inr (record { unserved = refl; exit_is = refl })
