use Rattle.std.proofs.Common.{arith}
use Rattle.std.proofs.lemmas.Fmt.{length-decimal-le}
use Rattle.itoa.proofs.Decimal.{length_four}
use Rattle.osm_json.proofs.body.digit_count.Goals as goal

pub loop-left-preserved : goal.loop-left-preserved
loop-left-preserved c = omega (arith, length_four c.loop-left.left c.loop-left-test.true c.loop-left.auto.left-fits.fits)

pub overflow_add-more : goal.overflow_add-more
overflow_add-more c =
    omega (arith, length_four c.loop-left.left c.loop-left-test.true c.loop-left.auto.left-fits.fits, length-decimal-le 20 c.args.n (omega arith) (omega arith) (omega arith))

pub overflow_add-result : goal.overflow_add-result
overflow_add-result c = omega (arith, length-decimal-le 20 c.args.n (omega arith) (omega arith) (omega arith))

pub returns-clause-few : goal.returns-clause-few
returns-clause-few c = omega (arith, length-decimal-le 20 c.args.n (omega arith) (omega arith) (omega arith))
