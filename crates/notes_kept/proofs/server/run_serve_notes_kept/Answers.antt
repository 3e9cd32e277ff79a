use Rattle.std.proofs.Common.{map, inr}
use Rattle.osm_base.specs.declared.limits.TheConstants.{SESSION_LIMIT}
use Rattle.notes_text.specs.Line.{IsEntry}
use Rattle.notes_text.specs.Text.{text_of, IsLegal}
use Rattle.notes_core.specs.Machine.{note_rules}
use Rattle.snapshot_hub.specs.Closings.{AreSeated}
use Rattle.recovered_start.proofs.Runs.{served}
use Rattle.notes_kept.specs.Run.{ServesFrom}
use Rattle.notes_kept.proofs.server.run_serve_notes_kept.Goals as goal

pub returns-in-Ok : goal.returns-in-Ok
returns-in-Ok g c =
    let F = g.J.File.Device in
    let told = g.H.Port.PortOutside.told in
    served F.moment F.left_since F.faults text_of IsEntry IsLegal (AreSeated note_rules.tag_of SESSION_LIMIT) (ServesFrom F.seen F.moment F.left_since F.faults)
    _ _ _ _ _ _ _ _ _ _ (g.L.Outside.told c.args.standard.now) _ _ _ _ (map told c.serve_handed-outcome.new.ports.items) c.serve_handed-outcome.result.1 c.serve_handed-outcome.result.0
    c.in-Ok.ensures.begins c.serve_handed-outcome.ensures.serves c.back.ensures c.close_ports.ensures.back c.close_ports.ensures.exit

pub returns-in-Err : goal.returns-in-Err
returns-in-Err g c = inr (c.in-Err.ensures.begins (g.L.Outside.told c.args.standard.now))
