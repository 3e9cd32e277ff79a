use Rattle.std.proofs.Common.{ℕ, [], Bool, map, sym, ◌∙◌, subst}
use Rattle.notes_core.specs.Machine.{note_rules}
use Rattle.notes_desk.specs.Desk.{note_row}
use Rattle.snapshot_hub.specs.Closed.{HasClosed}
use Rattle.desk_serve.specs.Ports.{ServesAll}
use Rattle.notes_serve.proofs.workers.notes_all.Goals as goal

pub returns-then-failed-clause-serves : goal.returns-then-failed-clause-serves
returns-then-failed-clause-serves g c =
    let told = g.P.PortOutside.told in
    subst (λ (b : Bool). ServesAll note_rules note_row c.args.users.now (map told c.args.ports.now.items) (map told c.serve_by_sessions.new.ports.items) b) c.if-failed.true
    (c.in-Ok-serve_by_sessions.ensures.served
    (subst (λ (n : ℕ). HasClosed note_rules n c.in-Ok-serve_by_sessions.sessions.items []) (sym c.requires.seated ∙ c.requires.count)
    (subst (λ l. HasClosed note_rules g.N.HubName.sessions l []) c.deref.ensures.value c.close_with.ensures.ended)))

pub returns-in-Ok-serve_by_sessions-clause-serves : goal.returns-in-Ok-serve_by_sessions-clause-serves
returns-in-Ok-serve_by_sessions-clause-serves g c =
    let told = g.P.PortOutside.told in
    subst (λ (b : Bool). ServesAll note_rules note_row c.args.users.now (map told c.args.ports.now.items) (map told c.serve_by_sessions.new.ports.items) b) c.if-failed.false
    (c.in-Ok-serve_by_sessions.ensures.served
    (subst (λ (n : ℕ). HasClosed note_rules n c.in-Ok-serve_by_sessions.sessions.items []) (sym c.requires.seated ∙ c.requires.count)
    (subst (λ l. HasClosed note_rules g.N.HubName.sessions l []) c.deref.ensures.value c.close_with.ensures.ended)))
