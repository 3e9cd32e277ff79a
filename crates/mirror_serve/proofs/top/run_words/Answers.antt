use Rattle.std.proofs.Common.{refl}
use Rattle.mirror_serve.proofs.top.run_words.Goals as goal

pub returns-in-Standard : goal.returns-in-Standard
returns-in-Standard g c = rw c.in-Standard.is (record { files = refl; comes = c.run_link.ensures })

pub returns-in-None : goal.returns-in-None
returns-in-None g c = rw c.in-Listen.is (rw c.in-None.is (record { files = refl; comes = c.run_listen.ensures }))
