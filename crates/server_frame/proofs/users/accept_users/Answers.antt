use Rattle.std.proofs.Common.{refl, inl, inr}
use Rattle.server_frame.proofs.users.accept_users.Goals as goal

pub returns-in-Err-Failed : goal.returns-in-Err-Failed
returns-in-Err-Failed g c =
    let found = rw c.in-Err-Failed.field-0-is at c.in-Err-Failed.ensures.found in
    λ link. record { keeps = c.read_users.ensures.keeps; comes_to = inr (inl (record { failed = found; unserved = refl; exit_is = refl })) }

pub returns-in-Err-Memory : goal.returns-in-Err-Memory
returns-in-Err-Memory g c =
    λ link. record { keeps = c.read_users.ensures.keeps; comes_to = inr (inr (record { unserved = refl; exit_is = refl })) }
