use Rattle.std.proofs.Common.{◌++◌, List, ℕ, sym, ap, ◌∙◌}
use Rattle.journal_file.specs.Whole.{rest_of, packed_line}
use Rattle.journal_file.proofs.Scans.{front_of, front_taken}
use Rattle.journal_file.proofs.text.raw_text.Goals as goal

pub returns-clause-text : goal.returns-clause-text
returns-clause-text c = ap packed_line (front_taken c.args.file.now c.raw_len.result c.raw_len.ensures) ∙ (front_of c.args.file.now).packs

pub returns-clause-front : goal.returns-clause-front
returns-clause-front c =
    let file = c.args.file.now in
    (front_of file).is ∙ ap (λ (l : List ℕ). l ++ rest_of file) (sym (front_taken file c.raw_len.result c.raw_len.ensures))
