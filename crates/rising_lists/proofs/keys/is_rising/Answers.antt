use Rattle.std.proofs.Common.{sym, ◌∙◌, arith}
use Rattle.osm_base.specs.declared.keys.Kind.TheVariants.{Node}
use Rattle.rising_lists.proofs.Rising.{rising_more}
use Rattle.rising_lists.proofs.keys.is_rising.Goals as goal

pub loop-place-preserved : goal.loop-place-preserved
loop-place-preserved c =
    rising_more c.args.keys.now c.loop-place.place (record { kind = Node; id = 0 })
    (omega (arith, c.loop-place-test.true, c.saturating_sub-place-end.ensures))
    (sym c.is_before.ensures ∙ c.if-not-is_before.false)
    c.loop-place.invariant
