use Rattle.std.proofs.Common.{◌≡◌, ◌++◌, ℕ, List, true, sym, ap, ◌∙◌, subst, append_assoc}
use Rattle.journal_file.specs.Whole.{text_of, rest_of, packed, packed_line}
use Rattle.journal_recovery.specs.Header.{is_header}
use Rattle.journal_recovery.proofs.Behind.{behind_header, text_is, lines_are, not_behind, begins_found}
use Rattle.journal_recovery.proofs.Exits.{at_cause}
use Rattle.journal_recovery.proofs.InParts.{only}
use Rattle.journal_recovery.proofs.Packed as packing
use Rattle.journal_recovery.proofs.restarting.read_text.Goals as goal

pub returns-in_default-clause-cause : goal.returns-in_default-clause-cause
returns-in_default-clause-cause g c faults entries typed legal same =
    let found = c.header.result.now in
    let raw = c.raw_text.result.now in
    let one : is_header found ≡ true = subst (λ (l : List ℕ). is_header l ≡ true) (sym c.header.ensures.header) c.header.ensures.one in
    let begins = packing.begins_packed found raw (g.T.Lines.lines entries) one
    (c.raw_text.ensures.text ∙ same ∙ begins_found g.T.Lines.text g.T.Lines.lines g.T.KeptText.header found c.text_law.ensures.begins c.header.ensures.header entries) in
    not_behind raw found begins.0 c.in_default.ensures.cases begins.1

pub returns-in_err-journal-clause-cause : goal.returns-in_err-journal-clause-cause
returns-in_err-journal-clause-cause g c =
    let raw = c.raw_text.result.now in
    let found = c.header.result.now in
    let rest = c.in-Some.lines.now in
    let cases = c.in-Some.ensures.cases in
    let one : is_header found ≡ true = subst (λ (l : List ℕ). is_header l ≡ true) (sym c.header.ensures.header) c.header.ensures.one in
    let text : text_of c.args.file.now ≡ found ++ packed rest =
    sym c.raw_text.ensures.text ∙ ap packed_line (behind_header raw found rest cases.0 cases.1) ∙ packing.behind_header found rest one in
    at_cause g.T.Lines.text g.T.KeptText.is_entry g.S.EntryJudge.is_legal c.args.file.now c.from_residual.result c.in_err-journal.field-0.0 c.from_residual.ensures.1
    (λ told entries typed legal same.
    c.in_err-journal.ensures told entries
    (record {
      is =
          lines_are g.T.Lines.text g.T.Lines.lines g.T.KeptText.header found c.text_law.ensures.begins c.header.ensures.header
          (text_of c.args.file.now) (packed rest) entries text same;
      typed = typed;
    })
    legal)

pub returns-clause-text : goal.returns-clause-text
returns-clause-text g c =
    let raw = c.raw_text.result.now in
    let found = c.header.result.now in
    let rest = c.in-Some.lines.now in
    let cases = c.in-Some.ensures.cases in
    let one : is_header found ≡ true = subst (λ (l : List ℕ). is_header l ≡ true) (sym c.header.ensures.header) c.header.ensures.one in
    let text : text_of c.args.file.now ≡ found ++ packed rest =
    sym c.raw_text.ensures.text ∙ ap packed_line (behind_header raw found rest cases.0 cases.1) ∙ packing.behind_header found rest one in
    text_is g.T.Lines.text g.T.Lines.lines g.T.KeptText.header found c.text_law.ensures.begins c.header.ensures.header
    (text_of c.args.file.now) (packed rest) (g.S.EntryJudge.entries c.in_ok-journal.journal) text c.in_ok-journal.ensures.read.is

pub returns-clause-begins : goal.returns-clause-begins
returns-clause-begins g c =
    let raw = c.raw_text.result.now in
    let found = c.header.result.now in
    let rest = c.in-Some.lines.now in
    let cases = c.in-Some.ensures.cases in
    let behind = rest_of c.args.file.now in (
      rest ++ behind,
      c.raw_text.ensures.front
          ∙ ap (λ (l : List ℕ). l ++ behind) (behind_header raw found rest cases.0 cases.1)
          ∙ append_assoc found rest behind
          ∙ ap (λ (l : List ℕ). l ++ (rest ++ behind)) c.header.ensures.header,
    )

pub returns-clause-only : goal.returns-clause-only
returns-clause-only g c entries typed same =
    let raw = c.raw_text.result.now in
    let found = c.header.result.now in
    let rest = c.in-Some.lines.now in
    let cases = c.in-Some.ensures.cases in
    let law = c.text_law.ensures in
    let one : is_header found ≡ true = subst (λ (l : List ℕ). is_header l ≡ true) (sym c.header.ensures.header) c.header.ensures.one in
    let text : text_of c.args.file.now ≡ found ++ packed rest =
    sym c.raw_text.ensures.text ∙ ap packed_line (behind_header raw found rest cases.0 cases.1) ∙ packing.behind_header found rest one in
    let lines =
    lines_are g.T.Lines.text g.T.Lines.lines g.T.KeptText.header found law.begins c.header.ensures.header
    (text_of c.args.file.now) (packed rest) entries text same in
    only g.T.KeptText.line g.T.Lines.lines g.T.KeptText.is_entry law.lines law.one law.tell (packed rest) (g.S.EntryJudge.entries c.in_ok-journal.journal) entries
    c.in_ok-journal.ensures.read (record { is = lines; typed = typed })
