use Rattle.std.proofs.Common.{◌≡◌, length, reverse}
use Rattle.httparse.specs.Grammar.{skip_ows}
use Rattle.http_wire.proofs.close.trim_ows.Given as goal

abbrev pub invariant-spaces : goal.invariant-spaces
invariant-spaces l = skip_ows (reverse l.rest) ≡ skip_ows (reverse (skip_ows l.bytes))

abbrev pub decreases-spaces : goal.decreases-spaces
decreases-spaces l = length l.rest
