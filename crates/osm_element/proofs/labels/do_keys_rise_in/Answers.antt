use Rattle.std.proofs.Common.{sym, arith, ◌∙◌}
use Rattle.osm_element.proofs.Rising.{all-rise, no_tag, one-falls}
use Rattle.osm_element.proofs.labels.do_keys_rise_in.Goals as goal

pub returns-then-not-is_key_before : goal.returns-then-not-is_key_before
returns-then-not-is_key_before c = (λ h. absurd (grind arith), λ rise. absurd (one-falls c.args.list.now c.loop-next.next no_tag no_tag (omega arith) (omega arith) (sym c.is_key_before.ensures ∙ c.if-not-is_key_before.true) rise))

pub returns : goal.returns
returns c = (λ h. all-rise c.args.list.now c.loop-next.next (omega arith) c.loop-next.invariant, λ rise. grind arith)
