use Rattle.std.proofs.Common.{map, refl, ◌∙◌, subst}
use Rattle.kept_steps.specs.KeptPorts.{ServesKeptPorts}
use Rattle.kept_serve.proofs.Leaving.{as_before, unshelved}
use Rattle.kept_steps.proofs.serve.serve_kept_ports.Goals as goal

pub returns-in-Ok-shelve-clause-serves : goal.returns-in-Ok-shelve-clause-serves
returns-in-Ok-shelve-clause-serves g c =
    let S = g.S.Stepped in
    let V = g.V.Device in
    let told = g.P.PortOutside.told in
    subst
    (λ J. ServesKeptPorts S.steps S.legal g.T.Lines.text V.moment V.left_since V.faults c.args.setting.now J c.serve_shelved.result.1
    (map told c.args.ports.now.items) (map told c.serve_shelved.new.ports.items) c.serve_shelved.result.0)
    c.in-Ok.ensures.all c.serve_shelved.ensures.serves

pub returns-in_default-clause-serves : goal.returns-in_default-clause-serves
returns-in_default-clause-serves g c =
    let V = g.V.Device in
    let left =
    as_before g.T.Lines.text V.moment V.left_since V.faults c.args.kept.file.device c.into_device.result (g.S.Stepped.list c.args.kept.value)
    c.into_device.ensures c.requires.holds c.requires.fine in (refl, left.0, left.1)

pub returns-in-Err-clause-serves : goal.returns-in-Err-clause-serves
returns-in-Err-clause-serves g c =
    let V = g.V.Device in
    let left =
    unshelved g.T.Lines.text V.moment V.left_since V.faults c.args.kept.file.device c.in-Err.device (g.S.Stepped.list c.args.kept.value) c.again-front.result
    (c.again-front.ensures ∙ c.in-Ok.ensures.all) c.in-Err.ensures.err c.requires.holds c.in-Err.ensures.fine in (refl, left.0, left.1)
