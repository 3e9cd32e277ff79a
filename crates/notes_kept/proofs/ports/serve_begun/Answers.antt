use Rattle.std.proofs.Common.{refl}
use Rattle.kept_serve.proofs.Leaving.{unshelved}
use Rattle.notes_kept.proofs.ports.serve_begun.Goals as goal

pub returns-in-Err-clause-serves : goal.returns-in-Err-clause-serves
returns-in-Err-clause-serves g c =
    let V = g.V.Device in
    let left =
    unshelved g.T.Lines.text V.moment V.left_since V.faults c.args.file.0.device c.in-Err.device c.args.begun.front c.again-front.result
    c.again-front.ensures
    c.in-Err.ensures.err c.requires.holds c.in-Err.ensures.fine in (refl, left.0, left.1)
