use Rattle.osm_real.proofs.KnownLemmas.{of_limited}
use Rattle.osm_real.proofs.host.first_bytes.Goals as goal

pub returns-in-Ok : goal.returns-in-Ok
returns-in-Ok g c =
    let read = rw (c.take-limited.ensures.inner, c.take-limited.ensures.limit) at c.in-Ok.ensures.bytes in
    rw c.from_vec.ensures (of_limited (g.R.Read.remaining c.args.file) 1048577 _ _ c.new-text.ensures.items read)
