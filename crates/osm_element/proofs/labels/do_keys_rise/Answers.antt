use Rattle.std.proofs.Common.{sym, arith, ◌∙◌}
use Rattle.osm_element.proofs.Rising.{all-rise, one-falls}
use Rattle.osm_element.proofs.labels.do_keys_rise.Goals as goal

pub returns-then-not-is_before : goal.returns-then-not-is_before
returns-then-not-is_before c = (λ h. absurd (grind arith), λ rise. absurd (one-falls c.args.pairs.now c.loop-next.next c.index-pairs-next.result c.index-pairs-next-in-loop-next.result c.loop-next.auto.next c.loop-next-test.true (sym c.is_before.ensures ∙ c.if-not-is_before.true) rise))

pub returns : goal.returns
returns c = (λ h. all-rise c.args.pairs.now c.loop-next.next c.loop-next-test.false c.loop-next.invariant, λ rise. grind arith)
