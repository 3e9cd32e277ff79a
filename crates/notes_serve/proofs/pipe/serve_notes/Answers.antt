use Rattle.std.proofs.Common.{ℕ, [], refl, sym, ◌∙◌, subst}
use Rattle.notes_core.specs.Machine.{note_rules}
use Rattle.snapshot_hub.specs.Closed.{HasClosed}
use Rattle.notes_serve.proofs.pipe.serve_notes.Goals as goal

pub returns-in_default : goal.returns-in_default
returns-in_default g c = c.pipe_left_alone.ensures c.args.users.now _ _ refl

pub returns-in-Ok-serve_by_session : goal.returns-in-Ok-serve_by_session
returns-in-Ok-serve_by_session g c =
    c.in-Ok-serve_by_session.ensures.served
    (subst (λ (n : ℕ). HasClosed note_rules n c.in-Ok-serve_by_session.sessions.items []) (sym c.requires.seated ∙ c.requires.one)
    (subst (λ l. HasClosed note_rules g.N.HubName.sessions l []) c.deref.ensures.value c.close_with.ensures.ended))

pub returns : goal.returns
returns g c = c.pipe_left_alone.ensures c.args.users.now _ _ c.in-Err.ensures.err
