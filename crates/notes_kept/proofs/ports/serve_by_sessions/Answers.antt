use Rattle.std.proofs.Common.{◌∙◌, map-id}
use Rattle.std.proofs.lemmas.Result.{IfOk-weaker}
use Rattle.notes_kept.proofs.ports.serve_by_sessions.Goals as goal

pub returns-clause-served : goal.returns-clause-served
returns-clause-served g c =
    IfOk-weaker c.serve_kept_by.result _ _
    (λ r h. (h.0, h.1 ∙ map-id r.sessions.items, h.2, h.3, λ numbers J known. h.4 numbers J (map-id c.args.sessions.items ∙ known)))
    c.serve_kept_by.ensures.served
