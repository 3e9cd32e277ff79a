use Rattle.std.proofs.Common.{map, subst}
use Rattle.mirror_desk.specs.declared.setting.MirrorSetting.{MirrorSetting}
use Rattle.mirror_serve.specs.Mirrors.{MirrorsPorts}
use Rattle.mirror_serve.proofs.serve.serve_handed.Goals as goal

pub returns-clause-serves : goal.returns-clause-serves
returns-clause-serves g c =
    let told = g.P.PortOutside.told in
    subst
    (λ (setting : MirrorSetting). MirrorsPorts setting (map told c.args.ports.now.items) (map told c.mirror_ports.new.ports.items) c.mirror_ports.result)
    c.of-setting.ensures c.mirror_ports.ensures.serves
