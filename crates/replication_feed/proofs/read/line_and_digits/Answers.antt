use Rattle.std.proofs.Common.{◌++◌, Some, None, refl, sym, ap, ◌∙◌}
use Rattle.std.proofs.lemmas.Bool.Decides.{Decides-eqb}
use Rattle.std.proofs.lemmas.List.{append_cancel_right}
use Rattle.std.proofs.lemmas.Slice.Eq.{strip_suffix_is}
use Rattle.replication_feed.specs.Text.{middle}
use Rattle.replication_feed.proofs.Numbered.{name, colon_last}
use Rattle.replication_feed.proofs.read.line_and_digits.Goals as goal

pub returns-in_err-line-clause-all : goal.returns-in_err-line-clause-all
returns-in_err-line-clause-all c line digits all is =
    let at = c.split_digits.ensures.last (line ++ name) digits 58 refl all (is ∙ ap (λ text. text ++ digits) (colon_last line)) in
    rw c.from_residual.ensures (strip_suffix_is Decides-eqb c.split_digits.result.0.now middle None c.in_err-line.ensures.cases line (at.0 ∙ sym (colon_last line)))

pub returns-clause-some : goal.returns-clause-some
returns-clause-some c =
    c.split_digits.ensures.whole
    ∙ ap (λ text. text ++ c.split_digits.result.1.now) (strip_suffix_is Decides-eqb c.split_digits.result.0.now middle (Some c.in_ok-line.line) c.in_ok-line.ensures.cases)

pub returns-clause-all : goal.returns-clause-all
returns-clause-all c line digits all is =
    let at = c.split_digits.ensures.last (line ++ name) digits 58 refl all (is ∙ ap (λ text. text ++ digits) (colon_last line)) in
    let stripped = strip_suffix_is Decides-eqb c.split_digits.result.0.now middle (Some c.in_ok-line.line) c.in_ok-line.ensures.cases in
    (append_cancel_right c.in_ok-line.line.now line middle (sym stripped ∙ at.0 ∙ sym (colon_last line)), at.1)
