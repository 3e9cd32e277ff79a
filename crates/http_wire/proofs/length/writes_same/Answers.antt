use Rattle.std.proofs.Common.{sym, ◌∙◌}
use Rattle.http_wire.proofs.NumberLemmas.{writes_same}
use Rattle.http_wire.proofs.length.writes_same.Goals as goal

pub returns-then-is_numeral : goal.returns-then-is_numeral
returns-then-is_numeral c =
    let text = c.args.text.now in
    let digits = c.args.digits.now in
    let numeral = sym c.is_numeral.ensures ∙ c.if-is_numeral.true in
    let same = writes_same text digits numeral c.requires in
    c.eq.ensures ∙ rw (← c.without_zeros.ensures, ← c.without_zeros-then-is_numeral.ensures) at same
