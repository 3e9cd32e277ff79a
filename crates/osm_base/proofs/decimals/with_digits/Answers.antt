use Rattle.std.proofs.Common.{◌≡◌, ℕ, ◌+◌, ◌*◌, min, get_or, take, sym, ap, ◌∙◌, arith}
use Rattle.std.specs.Char.{digit_value}
use Rattle.std.specs.Str.Parse.{digits_value_after}
use Rattle.std.proofs.lemmas.Str.{digit_value_digit}
use Rattle.osm_base.proofs.NumberLemmas.{is_digit_at}
use Rattle.osm_base.proofs.DecimalLemmas.{after_more, capped_step}
use Rattle.osm_base.proofs.decimals.with_digits.Goals as goal

pub loop-digit-preserved : goal.loop-digit-preserved
loop-digit-preserved c =
    let digits = c.args.digits.now in
    let i = c.loop-digit.digit-index in
    let d = digit_value (get_or digits i 0) in
    let total = digits_value_after 10 c.args.number (take i digits) in
    let same : c.from.result ≡ d = omega (arith, digit_value_digit (get_or digits i 0) (is_digit_at digits i c.requires.digits c.loop-digit-test.true)) in
    c.min-number.ensures
    ∙ ap (λ (x : ℕ). min (c.loop-digit.number * 10 + x) 2000000000) same
    ∙ capped_step total d 2000000000 c.loop-digit.number c.loop-digit.invariant
    ∙ ap (λ (v : ℕ). min v 2000000000) (sym (after_more c.args.number digits i c.loop-digit-test.true))
