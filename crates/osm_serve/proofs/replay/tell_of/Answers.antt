use Rattle.std.proofs.Common.{refl, inl, inr, ◌∙◌}
use Rattle.osm_serve.proofs.replay.tell_of.Goals as goal

pub returns-in-Ok : goal.returns-in-Ok
returns-in-Ok g c =
    inl (record {
      text = c.as_bytes.result.now;
      fitting = c.as_bytes.ensures.value ∙ c.as_str.ensures ∙ c.in-Ok.ensures;
      writes = c.tell.ensures;
    })

pub returns-in-Err : goal.returns-in-Err
returns-in-Err g c = inr (record { unserved = refl; exit_is = refl })
