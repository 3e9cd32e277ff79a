use Rattle.std.proofs.Common.{◌∷◌, [], ◌++◌, ℕ, List, sym, ◌∙◌, ap, subst}
use Rattle.journal_file.specs.Whole.{whole, IsBatch}
use Rattle.durable_log.proofs.keeping.batch_of.Goals as goal

pub returns-clause-batch : goal.returns-clause-batch
returns-clause-batch g c =
    let lines = g.T.Lines.lines c.args.entries.now in
    let is = c.in_ok-push.ensures.items ∙ ap (λ (l : List ℕ). l ++ 10 ∷ []) (c.in_ok-batch.ensures.lines ∙ ap (λ (l : List ℕ). l ++ lines) c.new.ensures.items) in
    subst IsBatch (sym is) (c.batch_law.ensures.ends lines c.in_ok-batch.ensures.whole).1

pub returns-clause-lines : goal.returns-clause-lines
returns-clause-lines g c =
    let lines = g.T.Lines.lines c.args.entries.now in
    let is = c.in_ok-push.ensures.items ∙ ap (λ (l : List ℕ). l ++ 10 ∷ []) (c.in_ok-batch.ensures.lines ∙ ap (λ (l : List ℕ). l ++ lines) c.new.ensures.items) in
    ap whole is ∙ (c.batch_law.ensures.ends lines c.in_ok-batch.ensures.whole).0
