use Rattle.std.proofs.Common.{refl, inl, inr}
use Rattle.osm_serve.proofs.tell.tell.Goals as goal

pub returns-in-Ok : goal.returns-in-Ok
returns-in-Ok g c = inl (record { written = c.in-Ok.ensures.writes; exit_is = refl })

pub returns-in-Err : goal.returns-in-Err
returns-in-Err g c = inr (record { written = c.in-Err.ensures.writes; failed = c.in-Err.ensures.failed refl; exit_is = refl })
