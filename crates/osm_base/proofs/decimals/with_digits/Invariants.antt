use Rattle.std.proofs.Common.{◌≡◌, min, take}
use Rattle.std.specs.Str.Parse.{digits_value_after}
use Rattle.osm_base.specs.declared.decimals.TheConstants.{UNIT_CAP}
use Rattle.osm_base.proofs.decimals.with_digits.Given as goal

abbrev pub invariant-loop-digit : goal.invariant-loop-digit
invariant-loop-digit l = l.number ≡ min (digits_value_after 10 l.fn.number (take l.digit-index l.digits)) UNIT_CAP
