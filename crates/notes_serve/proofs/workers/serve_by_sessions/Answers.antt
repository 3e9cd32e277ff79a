use Rattle.std.proofs.Common.{List, [], sym, subst, map-id}
use Rattle.std.proofs.lemmas.Result.{IfOk-weaker}
use Rattle.notes_core.specs.Machine.{note_rules}
use Rattle.notes_core.specs.declared.commands.NoteEntry.{NoteEntry}
use Rattle.snapshot_hub.specs.Known.{Known}
use Rattle.snapshot_hub.specs.Closed.{HasClosed}
use Rattle.notes_serve.proofs.workers.serve_by_sessions.Goals as goal

pub returns-clause-served : goal.returns-clause-served
returns-clause-served g c =
    IfOk-weaker c.serve_by.result _ _
    (λ r served closed. served (subst (λ (known : List (Known NoteEntry)). HasClosed note_rules c.args.ports.now.len known []) (sym (map-id r.0.items)) closed))
    c.serve_by.ensures.served
