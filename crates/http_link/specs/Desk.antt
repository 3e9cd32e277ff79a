-- The reply that a desk's answer stands for.
use Rattle.std.specs.Prelude.{codes, List, [], ◌∷◌, ◌++◌, ℕ, Result, Ok, Err}
use Rattle.osm_base.specs.declared.memory.Memory.{Memory}
use Rattle.osm_outside.specs.Event.{Shown, Showed}
use Rattle.osm_outside.specs.Told.{Told}
use Rattle.http_link.specs.declared.desk.Reply.{Reply}

-- the body of the reply to want of memory
abbrev pub memory_body : List ℕ
memory_body = codes "{\"error\":\"memory\"}"

-- want of memory is the reply 503
abbrev pub counted_reply : Result Reply Memory → Reply
counted_reply (Ok reply) = reply
counted_reply (Err memory) = record { status = 503; body = memory_body }

-- a link that was then shown these receipts, one time after another
abbrev pub showing : List Shown → Told → Told
showing [] told = told
showing (s ∷ shown) told = showing shown (record told { trace = told.trace ++ Showed s ∷ [] })
