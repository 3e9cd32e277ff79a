use Rattle.std.proofs.Common.{refl, inl, inr, subst, sym, ◌∙◌}
use Rattle.osm_serve.specs.Measure.{AreLines}
use Rattle.osm_serve.proofs.measure.measure.Goals as goal

pub returns-in-Ok : goal.returns-in-Ok
returns-in-Ok g c =
    inl (record {
      text = c.as_bytes.result.now;
      fitting = subst (AreLines c.args.load) (sym (c.as_bytes.ensures.value ∙ c.as_str.ensures)) c.in-Ok.ensures;
      writes = c.tell.ensures;
    })

pub returns-in-Err : goal.returns-in-Err
returns-in-Err g c = inr (record { unserved = refl; exit_is = refl })
