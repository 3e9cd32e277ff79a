use Rattle.std.proofs.Common.{map, inr}
use Rattle.std.specs.Prelude.{⊤}
use Rattle.journal_text.specs.Line.{IsEntry}
use Rattle.journal_text.specs.Text.{text_of}
use Rattle.osm_model.specs.Journal.{IsLegal}
use Rattle.recovered_start.proofs.Runs.{served}
use Rattle.mirror_serve.specs.Run.{mirrors_kept}
use Rattle.mirror_serve.proofs.kept_mirror.run_listen_kept.Goals as goal

pub returns-in-Ok : goal.returns-in-Ok
returns-in-Ok g c =
    let F = g.J.File.Device in
    let told = g.H.Port.PortOutside.told in
    served F.moment F.left_since F.faults text_of IsEntry IsLegal (λ _. ⊤) (mirrors_kept F.seen F.moment F.left_since F.faults c.args.until_level)
    _ _ _ _ _ _ _ _ _ _ (g.L.Outside.told c.args.standard.now) _ _ _ _ (map told c.serve_handed-outcome.new.ports.items) c.serve_handed-outcome.result.1 c.serve_handed-outcome.result.0
    c.in-Ok.ensures.begins c.serve_handed-outcome.ensures.serves c.back.ensures c.close_ports.ensures.back c.close_ports.ensures.exit

pub returns-in-Err : goal.returns-in-Err
returns-in-Err g c = inr (c.in-Err.ensures.begins (g.L.Outside.told c.args.standard.now))
