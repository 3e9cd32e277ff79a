use Rattle.std.proofs.Common.{◌≡◌, ◌+◌, [], ◌∷◌, ◌++◌, take, ap, sym, ◌∙◌, subst, append_assoc, arith, take_all}
use Rattle.std.specs.Prelude.{All}
use Rattle.std.proofs.lemmas.List.{take_more}
use Rattle.std.proofs.lemmas.List.Elements.{All-more}
use Rattle.line_text.proofs.LinesOf.{lines_more}
use Rattle.journal_text.specs.Line.{line, IsEntry}
use Rattle.journal_text.specs.Text.{lines}
use Rattle.journal_text.proofs.journals.lines_behind.Goals as goal

pub loop-entry-preserved : goal.loop-entry-preserved
loop-entry-preserved c =
    let es = c.args.entries.now in
    let i = c.loop-entry.entry-index in
    let e = c.entry-item.result in
    let within = c.loop-entry-test.true in
    let next : take (i + 1) es ≡ take i es ++ e ∷ [] = take_more es i e within ∙ ap (λ x. take i es ++ x ∷ []) (sym c.entry-item.is) in (
      c.in_ok-push.ensures.items
          ∙ ap (λ ts. ts ++ 10 ∷ []) c.in_ok-text.ensures.line
          ∙ append_assoc c.loop-entry.text.items (line e) (10 ∷ [])
          ∙ lines_more line (take i es) e c.loop-entry.text.items c.args.bytes.items c.loop-entry.invariant.0
          ∙ ap (λ xs. c.args.bytes.items ++ lines xs) (sym next),
      All-more IsEntry es i e within c.loop-entry.invariant.1 (subst IsEntry c.entry-item.is c.in_ok-text.ensures.typed),
    )

pub returns-clause-typed : goal.returns-clause-typed
returns-clause-typed c = subst (All IsEntry) (take_all c.loop-entry.entry-index c.args.entries.now (omega (arith, c.loop-entry-test.false))) c.loop-entry.invariant.1
