use Rattle.std.proofs.Common.{◌++◌, ◌∙◌, ◌-◌, min, length, take, drop, codes, ap}
use Rattle.std.specs.Str.Parse.{digits_value_after}
use Rattle.osm_base.proofs.DecimalLemmas.{units-capped, seven-kept, zeros-left}
use Rattle.osm_base.proofs.decimals.magnitude.Goals as goal

pub with_digits-requires-clause-digits : goal.with_digits-requires-clause-digits
with_digits-requires-clause-digits c = zeros-left _ _

pub returns : goal.returns
returns c =
    let whole = c.args.whole.now in
    let kept = take c.min.result c.args.fraction.now in
    let zeros = take (7 - length kept) (drop (length kept) (codes "0000000")) in
    units-capped 2000000000 whole kept zeros _ _ _ c.with_digits-units.ensures c.with_digits-units-2.ensures c.with_digits.ensures
    ∙ ap (λ places. min (digits_value_after 10 0 (whole ++ places)) 2000000000) (seven-kept c.args.fraction.now c.min.result c.min.ensures)
