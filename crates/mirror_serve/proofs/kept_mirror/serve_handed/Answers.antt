use Rattle.std.proofs.Common.{map, subst}
use Rattle.mirror_desk.specs.declared.setting.MirrorSetting.{MirrorSetting}
use Rattle.mirror_serve.specs.Mirrors.{MirrorsKeptPorts}
use Rattle.mirror_serve.proofs.kept_mirror.serve_handed.Goals as goal

pub returns-clause-serves : goal.returns-clause-serves
returns-clause-serves g c =
    let V = g.V.Device in
    let told = g.P.PortOutside.told in
    subst
    (λ (setting : MirrorSetting). MirrorsKeptPorts V.seen V.moment V.left_since V.faults c.args.taken.follower c.mirror_kept_ports.result.1 setting
    (map told c.args.ports.now.items) (map told c.mirror_kept_ports.new.ports.items) c.mirror_kept_ports.result.0)
    c.of-setting.ensures c.mirror_kept_ports.ensures.serves
