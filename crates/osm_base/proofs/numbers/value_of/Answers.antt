use Rattle.std.proofs.Common.{arith}
use Rattle.std.proofs.lemmas.Grind.{common_steps}
use Rattle.osm_base.proofs.NumberLemmas.{digits_value_step, next_value_le, is_digit_at}
use Rattle.osm_base.proofs.numbers.value_of.Goals as goal

pub overflow_sub-digit : goal.overflow_sub-digit
overflow_sub-digit c = omega (arith, is_digit_at c.args.text.now c.loop-digit.digit-index c.requires.digits c.loop-digit-test.true)

pub overflow_mul-value : goal.overflow_mul-value
overflow_mul-value c = omega (arith, next_value_le c.args.text.now c.loop-digit.digit-index c.requires.digits c.loop-digit-test.true)

pub overflow_add-value : goal.overflow_add-value
overflow_add-value c = omega (arith, next_value_le c.args.text.now c.loop-digit.digit-index c.requires.digits c.loop-digit-test.true)

pub loop-digit-preserved : goal.loop-digit-preserved
loop-digit-preserved c = grind (arith, common_steps, digits_value_step c.args.text.now c.loop-digit.digit-index c.requires.digits c.loop-digit-test.true)
