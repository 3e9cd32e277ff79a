use Rattle.std.proofs.Common.{◌≡◌, Some, None, refl, sym, ap, ◌∙◌, subst, arith, IsUtf8}
use Rattle.std.specs.Prelude.{decimal}
use Rattle.std.proofs.lemmas.Option.{same_Some}
use Rattle.replication_feed.proofs.Decimals.{decimal_utf8, text_is, no_text, parsed}
use Rattle.replication_feed.proofs.numerals.read_number.Goals as goal
use Rattle.replication_feed.proofs.numerals.read_number.Goals.{else-number-gt0-via-then-number-gt0+else-is_written, else-number-gt0-via-else-number-gt0}

pub returns-in_err-text-clause-all : goal.returns-in_err-text-clause-all
returns-in_err-text-clause-all c n counted small is =
    absurd (no_text _ c.args.digits.now c.from_utf8.result c.in_err-text.ensures.value c.from_utf8.ensures.cases (subst IsUtf8 (sym is) (decimal_utf8 n small)))

pub returns-in_err-number-clause-all : goal.returns-in_err-number-clause-all
returns-in_err-number-clause-all c n counted small is =
    let same = text_is _ c.args.digits.now c.from_utf8.result c.in_ok-text.text c.in_ok-text.ensures.value c.from_utf8.ensures.cases in
    let clash : ◌≡◌ None (Some n) = c.in_err-number.ensures.value ∙ parsed c.in_ok-text.text.now c.args.digits.now n c.parse.result small same is c.parse.ensures.value.0 in
    absurd cc

pub returns-then-is_written-clause-all : goal.returns-then-is_written-clause-all
returns-then-is_written-clause-all c n counted small is =
    let same = text_is _ c.args.digits.now c.from_utf8.result c.in_ok-text.text c.in_ok-text.ensures.value c.from_utf8.ensures.cases in
    c.in_ok-number.ensures.value ∙ parsed c.in_ok-text.text.now c.args.digits.now n c.parse.result small same is c.parse.ensures.value.0

pub returns-else-number-gt0-clause-all : goal.returns-else-number-gt0-clause-all
returns-else-number-gt0-clause-all c n counted small is =
    let same = text_is _ c.args.digits.now c.from_utf8.result c.in_ok-text.text c.in_ok-text.ensures.value c.from_utf8.ensures.cases in
    let number : c.in_ok-number.number ≡ n =
    same_Some c.in_ok-number.number n (c.in_ok-number.ensures.value ∙ parsed c.in_ok-text.text.now c.args.digits.now n c.parse.result small same is c.parse.ensures.value.0) in
    elim c.else-number-gt0.branch [
      | else-number-gt0-via-then-number-gt0+else-is_written w ↦ absurd (w.if-is_written.ensures.no refl (is ∙ ap decimal (sym number)))
      | else-number-gt0-via-else-number-gt0 w ↦ absurd (omega (arith, number, counted, w.if-number-gt0.false))
    ]
