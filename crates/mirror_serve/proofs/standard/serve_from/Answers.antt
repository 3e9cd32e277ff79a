use Rattle.std.proofs.Common.{subst}
use Rattle.mirror_desk.specs.declared.setting.MirrorSetting.{MirrorSetting}
use Rattle.mirror_serve.specs.Serve.{ServesMirror}
use Rattle.mirror_serve.proofs.standard.serve_from.Goals as goal

pub returns : goal.returns
returns g c =
    let told = g.L.Outside.told in
    record {
      start = told c.start.new.link;
      started = c.start.ensures;
      end = c.serve_mirror.result;
      served = subst (λ (setting : MirrorSetting). ServesMirror setting (told c.start.new.link) (told c.serve_mirror.new.link) c.serve_mirror.result)
          c.of-setting.ensures c.serve_mirror.ensures;
      exit_is = c.exit_of.ensures;
    }
