use Rattle.std.proofs.Common.{◌≤◌, get_or, arith}
use Rattle.std.proofs.lemmas.Int.Digits.{digits_more, digits_value_more}
use Rattle.osm_json.proofs.Plain.{digit_is}
use Rattle.osm_json.proofs.figure.plain.Goals as goal

pub loop-digit-preserved : goal.loop-digit-preserved
loop-digit-preserved c =
    let l = c.loop-digit in
    let digits = c.args.digits.now in
    let digit = get_or digits l.digit-index 0 in
    let low : 48 ≤ digit = omega (arith, c.if-digit-lt48.false) in
    let high : digit ≤ 57 = omega (arith, c.if-digit-gt57.false) in
    let is = digit_is digit low high in
    let more = digits_value_more 10 digits l.digit-index c.loop-digit-test.true in
    let before = l.invariant.1 in
    (digits_more 10 digits l.digit-index c.loop-digit-test.true l.invariant.0 (omega (arith, is)), omega (arith, is, more, before), omega (arith, c.if-number-ge-LARGE.false))
