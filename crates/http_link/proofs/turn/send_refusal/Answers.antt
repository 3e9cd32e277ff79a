use Rattle.std.proofs.Common.{◌≡◌, ◌⊎◌, inl, inr}
use Rattle.osm_outside.specs.Told.{Told}
use Rattle.http_wire.specs.declared.end.WireEnd.{WireEnd}
use Rattle.http_wire.specs.declared.end.WireEnd.TheVariants.{End, Truncated, ReadFault}
use Rattle.http_wire.specs.Written.{WrittenWhole}
use Rattle.http_link.specs.Refusal.{refusal}
use Rattle.http_link.proofs.TurnLemmas.{nothing_written}
use Rattle.http_link.proofs.turn.send_refusal.Goals as goal

unanswered : (a : Told) (why : WireEnd) → (why ≡ End) ⊎ ((why ≡ Truncated) ⊎ (why ≡ ReadFault)) → WrittenWhole a a (refusal why)
unanswered a why (inl e) = rw e (nothing_written a)
unanswered a why (inr (inl e)) = rw e (nothing_written a)
unanswered a why (inr (inr e)) = rw e (nothing_written a)

pub returns-in-End-clause-writes : goal.returns-in-End-clause-writes
returns-in-End-clause-writes g c = unanswered _ c.args.why c.in-End.is
