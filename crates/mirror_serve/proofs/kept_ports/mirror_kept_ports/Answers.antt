use Rattle.std.proofs.Common.{List, [], map, length, refl, sym, ap, ◌∙◌, subst, append-nil, tests, of_calls}
use denote.Param.Send.{sendable}
use Rattle.osm_model.specs.declared.commands.Entry.{Entry}
use Rattle.journal_text.specs.Text.{text_of}
use Rattle.durable_log.specs.Held.{HoldsFrom}
use Rattle.mirror_serve.specs.Mirrors.{MirrorsKeptPorts}
use Rattle.mirror_serve.proofs.Sendable.{mirror_send}
use Rattle.mirror_serve.proofs.kept_ports.mirror_kept_ports.Goals as goal

-- a mirror goes to the threads of its workers
pub serve_kept_ports-requires-send-S : goal.serve_kept_ports-requires-send-S
serve_kept_ports-requires-send-S g c κs within = search (tests, of_calls, sendable, mirror_send) parts 8 depth 60 fits 20000

pub returns-clause-serves : goal.returns-clause-serves
returns-clause-serves g c =
    let V = g.V.Device in
    let told = g.P.PortOutside.told in
    subst
    (λ (journal : List Entry). MirrorsKeptPorts V.seen V.moment V.left_since V.faults journal c.serve_kept_ports.result.1 c.args.setting.now
    (map told c.args.ports.now.items) (map told c.serve_kept_ports.new.ports.items) c.serve_kept_ports.result.0)
    c.in-Ok.ensures (c.serve_kept_ports.ensures.serves, c.serve_kept_ports.ensures.sealed)

pub returns-in_default-clause-serves : goal.returns-in_default-clause-serves
returns-in_default-clause-serves g c =
    let V = g.V.Device in
    let J = c.args.taken.follower in (
      (
        refl,
        record {
          list = J;
          begins = ([], append-nil J);
          holds = subst (λ d. HoldsFrom text_of V.left_since d (V.moment d) (length J) J) (sym c.into_device.ensures) c.requires.holds;
        },
        ap V.faults c.into_device.ensures ∙ c.requires.fine,
      ),
      tt,
    )
