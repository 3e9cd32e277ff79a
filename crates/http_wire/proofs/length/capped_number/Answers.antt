use Rattle.std.proofs.Common.{◌≡◌, ℕ, ◌+◌, ◌*◌, min, get_or, sym, ap, ◌∙◌, arith}
use Rattle.std.proofs.lemmas.Int.Digits.{digits_value_more}
use Rattle.std.specs.Char.{digit_value}
use Rattle.http_wire.proofs.NumberLemmas.{digit_at, value_of_digit}
use Rattle.http_wire.proofs.length.capped_number.Goals as goal

-- the cap may be taken at each step, or at the end
capped_step : (total digit cap n : ℕ) → n ≡ min total cap → min (n * 10 + digit) cap ≡ min (total * 10 + digit) cap
capped_step total digit cap n h = omega arith

pub loop-digit-preserved : goal.loop-digit-preserved
loop-digit-preserved c =
    let digits = c.args.digits.now in
    let i = c.loop-digit.digit-index in
    let value = digits_value_more 10 digits i c.loop-digit-test.true in
    let d = digit_value (get_or digits i 0) in
    let test = digit_at digits i c.requires c.loop-digit-test.true in
    let same : c.from.result ≡ d = omega (arith, value_of_digit (get_or digits i 0) test) in
    let step = capped_step _ d (c.args.body_limit + 1) _ c.loop-digit.invariant in
    c.min-number.ensures ∙ ap (λ (x : ℕ). min (c.loop-digit.number * 10 + x) (c.args.body_limit + 1)) same ∙ step
    ∙ ap (λ (v : ℕ). min v (c.args.body_limit + 1)) (sym value)
