use Rattle.std.proofs.Common.{List, [], sym, subst, map-id}
use Rattle.std.proofs.lemmas.Result.{IfOk-weaker}
use Rattle.notes_core.specs.Machine.{note_rules}
use Rattle.notes_core.specs.declared.commands.NoteEntry.{NoteEntry}
use Rattle.snapshot_hub.specs.Known.{Known}
use Rattle.snapshot_hub.specs.Closed.{HasClosed}
use Rattle.notes_serve.proofs.pipe.serve_by_session.Goals as goal

pub returns-clause-served : goal.returns-clause-served
returns-clause-served g c =
    IfOk-weaker c.serve_by_one.result _ _
    (λ r served closed. served (subst (λ (known : List (Known NoteEntry)). HasClosed note_rules 1 known []) (sym (map-id r.0.items)) closed))
    c.serve_by_one.ensures.served
