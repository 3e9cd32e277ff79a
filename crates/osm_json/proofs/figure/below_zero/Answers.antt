use Rattle.std.proofs.Common.{◌≡◌, ap, ◌∙◌, Some, arith, pos, ◌-ℤ◌, to_z, of_z, w64, true}
use Rattle.std.proofs.lemmas.Int.{ints}
use Rattle.fast_float.specs.Text.{with_sign}
use Rattle.serde_json.specs.Data.{negative}
use Rattle.osm_json.proofs.Plain.{plain_negative}
use Rattle.osm_json.proofs.figure.below_zero.Goals as goal

pub returns-in-Some : goal.returns-in-Some
returns-in-Some c =
    let n = c.in-Some.number in
    let small = c.in-Some.ensures.small in
    let is : to_z w64 (of_z w64 (pos 0 -ℤ to_z w64 n)) ≡ with_sign true n = omega (arith, ints) in
    ap (λ z. Some (negative z)) is ∙ plain_negative c.args.digits.now n c.in-Some.ensures c.if-number-gt0.true
