use Rattle.std.proofs.Common.{List, map, refl, subst}
use Rattle.journal_text.specs.Text.{text_of}
use Rattle.osm_model.specs.declared.commands.Entry.{Entry}
use Rattle.api_desk.specs.HubDesk.{map_row}
use Rattle.map_machine.specs.Machine.{map_rules}
use Rattle.kept_serve.specs.Ports.{ServesKeptPorts}
use Rattle.kept_serve.proofs.Leaving.{as_before}
use Rattle.map_kept.proofs.ports.serve_kept_ports.Goals as goal

pub returns-clause-serves : goal.returns-clause-serves
returns-clause-serves g c =
    let V = g.V.Device in
    let told = g.P.PortOutside.told in
    subst
    (λ (J : List Entry). ServesKeptPorts map_rules map_row text_of V.moment V.left_since V.faults c.args.users.now J c.serve_begun.result.1
    (map told c.args.ports.now.items) (map told c.serve_begun.new.ports.items) c.serve_begun.result.0)
    c.in-Ok-begun.ensures.front c.serve_begun.ensures.serves

pub returns-in_default-clause-serves : goal.returns-in_default-clause-serves
returns-in_default-clause-serves g c =
    let V = g.V.Device in
    let left =
    as_before text_of V.moment V.left_since V.faults c.args.file.device c.into_device.result c.args.twins c.into_device.ensures c.requires.holds c.requires.fine in
    (refl, left.0, left.1)

pub returns-in_default-begun-clause-serves : goal.returns-in_default-begun-clause-serves
returns-in_default-begun-clause-serves g c =
    let V = g.V.Device in
    let left =
    as_before text_of V.moment V.left_since V.faults c.args.file.device c.into_device-in_default-begun.result c.args.twins c.into_device-in_default-begun.ensures c.requires.holds c.requires.fine in
    (refl, left.0, left.1)
