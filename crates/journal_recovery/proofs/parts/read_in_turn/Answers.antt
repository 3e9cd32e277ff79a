use Rattle.std.proofs.Common.{◌++◌, List, ℕ, sym, ap, ◌∙◌, rules}
use Rattle.std.proofs.lemmas.List.Elements.{All-push}
use Rattle.journal_file.specs.Whole.{packed}
use Rattle.journal_recovery.proofs.Exits.{at_fault}
use Rattle.journal_recovery.proofs.InParts.{one_more, refused_open, refused_line, some_rest, no_rest}
use Rattle.journal_recovery.proofs.Packed.{cut_packed, empty_packed, uncut_packed}
use Rattle.journal_recovery.proofs.parts.read_in_turn.Goals as goal

pub returns-in_default : goal.returns-in_default
returns-in_default g c told =
    let rest = c.loop-rest.rest.now in
    let law = c.text_law.ensures in
    let cut = sym c.in_default.ensures in
    let same = uncut_packed rest cut in
    refused_open g.T.KeptText.line g.T.Lines.lines g.T.KeptText.is_entry law.lines law.one law.tell
    (packed c.args.text.now) rest c.loop-rest.entries.items (c.loop-rest.invariant.0 ∙ ap (λ (l : List ℕ). g.T.Lines.lines c.loop-rest.entries.items ++ l) same) c.loop-rest.invariant.1 (some_rest rest (search rules)) cut

pub returns-in_err-entry : goal.returns-in_err-entry
returns-in_err-entry g c =
    let law = c.text_law.ensures in
    let line = c.in-Some.line.now in
    at_fault g.T.Lines.lines g.T.KeptText.is_entry (packed c.args.text.now) c.from_residual.result (λ v. v.items) c.in_err-entry.field-0.0 c.from_residual.ensures.1
    (λ told.
    refused_line g.T.KeptText.line g.T.Lines.lines g.T.KeptText.is_entry law.lines law.one law.tell
    (packed c.args.text.now) (packed c.loop-rest.rest.now) line (packed c.in-Some.behind.now) c.loop-rest.entries.items c.loop-rest.invariant.0 c.loop-rest.invariant.1
    (cut_packed c.loop-rest.rest.now line c.in-Some.behind.now (sym c.in-Some.ensures) (some_rest line (search rules))) (c.in_err-entry.ensures.refused told))

pub loop-rest-preserved-then-is_empty : goal.loop-rest-preserved-then-is_empty
loop-rest-preserved-then-is_empty g c = (
  c.loop-rest.invariant.0 ∙ ap (λ (l : List ℕ). g.T.Lines.lines c.loop-rest.entries.items ++ l) (empty_packed c.loop-rest.rest.now c.in-Some.line.now c.in-Some.behind.now (sym c.in-Some.ensures) (no_rest c.in-Some.line.now (search rules))),
  c.loop-rest.invariant.1,
)

pub loop-rest-preserved : goal.loop-rest-preserved
loop-rest-preserved g c =
    let law = c.text_law.ensures in
    let es = c.loop-rest.entries.items in
    let entry = c.in_ok-entry.entry in
    let line = c.in-Some.line.now in
    rw c.in_ok-push.ensures.items (
      one_more g.T.KeptText.line g.T.Lines.lines g.T.KeptText.is_entry law.lines
          (packed c.args.text.now) (packed c.loop-rest.rest.now) line (packed c.in-Some.behind.now) es entry c.loop-rest.invariant.0
          (cut_packed c.loop-rest.rest.now line c.in-Some.behind.now (sym c.in-Some.ensures) (some_rest line (search rules))) c.in_ok-entry.ensures.is,
      All-push g.T.KeptText.is_entry es entry c.loop-rest.invariant.1 c.in_ok-entry.ensures.typed,
    )
