use Rattle.std.proofs.Common.{sym, ◌∙◌}
use Rattle.osm_base.proofs.NumberLemmas.{short_from_test}
use Rattle.osm_base.proofs.numbers.limit_number.Goals as goal

pub value_of-requires-clause-fits : goal.value_of-requires-clause-fits
value_of-requires-clause-fits c = (short_from_test c.args.text.now (sym c.is_digits.ensures ∙ c.if-is_digits.true)).fits
