use Rattle.std.proofs.Common.{List, ◌++◌, ap}
use Rattle.journal_recovery.specs.Intakes.{entries_in}
use Rattle.journal_recovery.proofs.InParts.{only}
use Rattle.journal_file.specs.Whole.{packed}
use Rattle.journal_recovery.proofs.Packed.{packed_joined, refused_front_packed}
use Rattle.journal_recovery.proofs.TakenIn.{at_end, at_rest, at_journal, no_part, no_rest, read_part, read_rest, typed_all}
use Rattle.journal_recovery.proofs.intake.take_in_all.Goals as goal

pub returns-in_err-intake : goal.returns-in_err-intake
returns-in_err-intake g c =
    let law = c.text_law.ensures in
    let text = packed c.args.text.now in
    let so_far = c.loop-part.invariant in
    at_end g.T.Lines.lines g.T.KeptText.is_entry g.S.EntryJudge.is_legal g.S.EntryJudge.entries text c.from_residual.result c.in_err-intake.field-0.0
    c.from_residual.ensures.1
    (λ told.
    no_part g.T.KeptText.line g.T.Lines.lines g.T.KeptText.is_entry law.lines law.one law.tell g.S.EntryJudge.is_legal
    text (packed c.loop-part.rest.now) (packed c.in-Some.part.now) (entries_in g.S.EntryJudge.keeps c.loop-part.intake) so_far.0 so_far.1
    (refused_front_packed g.T.KeptText.line g.T.Lines.lines g.T.KeptText.is_entry law.lines law.one c.loop-part.rest.now c.in-Some.part.now c.in-Some.behind.now c.in-Some.ensures)
    (c.in_err-intake.ensures told))

pub loop-part-preserved : goal.loop-part-preserved
loop-part-preserved g c =
    let law = c.text_law.ensures in
    let part = c.in-Some.part.now in
    let es = entries_in g.S.EntryJudge.keeps c.loop-part.intake in
    let after = c.in_ok-intake.intake in
    let more = after.part.items in
    let all = entries_in g.S.EntryJudge.keeps after in
    let so_far = c.loop-part.invariant in
    let taken = c.in_ok-intake.ensures in
    let same = ap (λ (l : List g.row.E.Denot). l ++ more) taken.followed.kept in (
      read_part g.T.KeptText.line g.T.Lines.lines g.T.KeptText.is_entry law.lines
          (packed c.args.text.now) (packed c.loop-part.rest.now) (packed part) (packed c.in-Some.behind.now) es more all so_far.0
          (packed_joined c.loop-part.rest.now part c.in-Some.behind.now c.in-Some.ensures) taken.read same,
      typed_all g.T.KeptText.line g.T.Lines.lines g.T.KeptText.is_entry law.lines (packed part) es more all so_far.1 taken.read same,
      at_rest g.S.EntryJudge.keeps g.S.EntryJudge.follows after.followed es taken.followed,
    )

pub returns-in_err-intake-2 : goal.returns-in_err-intake-2
returns-in_err-intake-2 g c =
    let law = c.text_law.ensures in
    let text = packed c.args.text.now in
    let so_far = c.loop-part.invariant in
    at_end g.T.Lines.lines g.T.KeptText.is_entry g.S.EntryJudge.is_legal g.S.EntryJudge.entries text c.from_residual-in_err-intake-2.result
    c.in_err-intake-2.field-0.0 c.from_residual-in_err-intake-2.ensures.1
    (λ told.
    no_rest g.T.KeptText.line g.T.Lines.lines g.T.KeptText.is_entry law.lines law.one law.tell g.S.EntryJudge.is_legal
    text (packed c.loop-part.rest.now) (entries_in g.S.EntryJudge.keeps c.loop-part.intake) so_far.0 so_far.1 (c.in_err-intake-2.ensures told))

pub returns : goal.returns
returns g c =
    let law = c.text_law.ensures in
    let text = packed c.args.text.now in
    let after = c.in_ok-intake-2.intake in
    let more = after.part.items in
    let all = entries_in g.S.EntryJudge.keeps after in
    let so_far = c.loop-part.invariant in
    let taken = c.in_ok-intake-2.ensures in
    let are =
    read_rest g.T.KeptText.line g.T.Lines.lines g.T.KeptText.is_entry law.lines
    text (packed c.loop-part.rest.now) (entries_in g.S.EntryJudge.keeps c.loop-part.intake) more all so_far.0 so_far.1 taken.read
    (ap (λ (l : List g.row.E.Denot). l ++ more) taken.followed.kept) in
    at_journal g.T.Lines.lines g.T.KeptText.is_entry g.S.EntryJudge.is_legal g.S.EntryJudge.entries text c.judge.result all are
    (λ es other. only g.T.KeptText.line g.T.Lines.lines g.T.KeptText.is_entry law.lines law.one law.tell text all es are other)
    c.judge.ensures
