use Rattle.std.proofs.Common.{◌++◌, ◌∙◌}
use Rattle.std.specs.Prelude.{decimal}
use Rattle.std.proofs.lemmas.Option.{none-some, same_Some}
use Rattle.replication_feed.specs.Text.{middle}
use Rattle.replication_feed.proofs.Numbered.{inner_is}
use Rattle.replication_feed.proofs.Decimals.{decimal_digits}
use Rattle.replication_feed.proofs.read.line_and_number.Goals as goal

pub returns-in_err-line-clause-all : goal.returns-in_err-line-clause-all
returns-in_err-line-clause-all c line n counted small is =
    let inner = c.in_ok-inner.ensures.all (line ++ middle ++ decimal n) (is ∙ inner_is line (decimal n)) in
    rw c.from_residual-in_err-line.ensures (c.in_err-line.ensures.all line (decimal n) (decimal_digits n small) inner)

pub returns-in_err-number-clause-all : goal.returns-in_err-number-clause-all
returns-in_err-number-clause-all c line n counted small is =
    let inner = c.in_ok-inner.ensures.all (line ++ middle ++ decimal n) (is ∙ inner_is line (decimal n)) in
    let parts = c.in_ok-line.ensures.all line (decimal n) (decimal_digits n small) inner in
    absurd (none-some n (c.in_err-number.ensures.all n counted small parts.1))

pub returns-clause-all : goal.returns-clause-all
returns-clause-all c line n counted small is =
    let inner = c.in_ok-inner.ensures.all (line ++ middle ++ decimal n) (is ∙ inner_is line (decimal n)) in
    let parts = c.in_ok-line.ensures.all line (decimal n) (decimal_digits n small) inner in
    (parts.0, same_Some c.in_ok-number.number n (c.in_ok-number.ensures.all n counted small parts.1))
