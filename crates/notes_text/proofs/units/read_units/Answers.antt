use Rattle.std.proofs.Common.{Some, None, sym, ◌∙◌, arith}
use Rattle.std.proofs.lemmas.Str.Pattern.{strip_prefix_char}
use Rattle.notes_text.proofs.Coordinates.{behind_minus, without_minus}
use Rattle.notes_text.proofs.units.read_units.Goals as goal

pub returns-in-Some : goal.returns-in-Some
returns-in-Some c =
    c.negative.ensures
    ∙ sym (behind_minus c.args.text.now c.in-Some.digits.now (strip_prefix_char 45 c.args.text.now (Some c.in-Some.digits) c.in-Some.ensures.cases (omega arith)))

pub returns-in-None : goal.returns-in-None
returns-in-None c = c.positive.ensures ∙ sym (without_minus c.args.text.now (strip_prefix_char 45 c.args.text.now None c.in-None.ensures.cases (omega arith)))
