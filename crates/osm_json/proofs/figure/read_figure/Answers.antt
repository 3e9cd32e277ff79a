use Rattle.std.proofs.Common.{◌≡◌, ◌==◌, drop, slice_index, true, false, sym, ap, ◌∙◌, arith, take_all, length-drop}
use Rattle.fast_float.specs.Text.{minus, scan}
use Rattle.serde_json.specs.Read.{number_of, number_from}
use Rattle.osm_json.proofs.figure.read_figure.Goals as goal

pub returns-then-begins_with_minus : goal.returns-then-begins_with_minus
unfolding number_of
returns-then-begins_with_minus c =
    let digits = c.as_bytes-digits.result.now in
    let below : (slice_index digits 0 == minus) ≡ true = sym c.if-begins_with_minus.ensures.value in
    let is : number_from true (scan (drop 1 digits)) ≡ number_of digits = rw below in
    c.below_zero.ensures ∙ ap (λ s. number_from true (scan s)) (take_all _ (drop 1 digits) (omega (arith, length-drop 1 digits))) ∙ is ∙ ap number_of c.as_bytes-digits.ensures.value

pub returns-else-begins_with_minus : goal.returns-else-begins_with_minus
unfolding number_of
returns-else-begins_with_minus c =
    let digits = c.as_bytes-digits.result.now in
    let from : (slice_index digits 0 == minus) ≡ false = sym c.if-begins_with_minus.ensures.value in
    let is : number_from false (scan digits) ≡ number_of digits = rw from in
    c.from_zero.ensures ∙ is ∙ ap number_of c.as_bytes-digits.ensures.value
