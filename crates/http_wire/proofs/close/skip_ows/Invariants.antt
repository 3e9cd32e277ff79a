use Rattle.std.proofs.Common.{◌≡◌, length}
use Rattle.httparse.specs.Grammar.{skip_ows}
use Rattle.http_wire.proofs.close.skip_ows.Given as goal

abbrev pub invariant-spaces : goal.invariant-spaces
invariant-spaces l = skip_ows l.rest ≡ skip_ows l.bytes

abbrev pub decreases-spaces : goal.decreases-spaces
decreases-spaces l = length l.rest
