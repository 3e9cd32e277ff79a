use Rattle.std.proofs.Common.{length, drop}
use Rattle.std.proofs.lemmas.Bool.Decides.{Decides-eqb}
use Rattle.std.proofs.lemmas.Slice.Eq.{starts_is}
use Rattle.journal_file.proofs.text.begins_with.Goals as goal

pub returns : goal.returns
returns c =
    let file = c.args.file.now in
    let header = c.args.header.now in
    let p = starts_is Decides-eqb file header c.starts_with.result c.starts_with.ensures.value in
    (λ t. (drop (length header) file, p.0 t), λ b. p.1 b.0 b.1)
