use Rattle.std.proofs.Common.{arith, length, refl, sym, subst, inl, inr}
use Rattle.std.proofs.lemmas.List.{length-map}
use Rattle.durable_log.specs.Held.{HoldsFrom}
use Rattle.recovered_start.proofs.begin.begin_kept.Goals as goal

pub returns-in-Err-clause-begins : goal.returns-in-Err-clause-begins
returns-in-Err-clause-begins g c = λ link. inr (inr (record { files = refl; lacks = c.in-Err.ensures link }))

pub returns-in-Err-take_up_fit-clause-begins : goal.returns-in-Err-take_up_fit-clause-begins
returns-in-Err-take_up_fit-clause-begins g c =
    λ link. inr (inl (record { table = c.in-Ok.users; accepts = c.in-Ok.ensures; lacks = c.in-Err-take_up_fit.ensures.taken; link_stays = refl }))

pub returns-in-Ok-listen-clause-begins : goal.returns-in-Ok-listen-clause-begins
returns-in-Ok-listen-clause-begins g c = record {
  taken = c.in-Ok-take_up_fit.ensures.taken;
  fit = c.in-Ok-take_up_fit.ensures.fits;
  opens = record {
    asked = g.H.Host.told c.accept_users.new.host;
    accepts = c.in-Ok.ensures;
    listens = c.listen.ensures.listens;
    count = omega (arith, length-map c.in-Ok-listen.ports.items g.H.Port.PortOutside.told, c.in-Ok-listen.ports.ok.0, c.in-Ok-listen.ensures.count);
    lent = c.in-Ok-listen.ensures.ports;
  };
}

pub returns-in-Err-listen-clause-begins : goal.returns-in-Err-listen-clause-begins
returns-in-Err-listen-clause-begins g c = λ link. inl (record {
  journal = g.S.EntryJudge.entries c.in-Ok-take_up_fit.taken.0;
  lent = g.J.Journals.told c.take_up_fit.new.journals;
  taken = c.in-Ok-take_up_fit.ensures.taken;
  fit = c.in-Ok-take_up_fit.ensures.fits;
  file = c.into_device-device.result;
  back = c.back.ensures;
  holds =
      let J = g.S.EntryJudge.entries c.in-Ok-take_up_fit.taken.0 in
      let F = g.J.File.Device in
      subst (λ d. HoldsFrom g.S.Text.Lines.text F.left_since d (F.moment d) (length J) J) (sym c.into_device-device.ensures) c.in-Ok-take_up_fit.ensures.holds;
  link_stays = refl;
  lacks = record {
    users = c.in-Ok.users;
    asked = g.H.Host.told c.accept_users.new.host;
    accepts = c.in-Ok.ensures;
    listens = c.listen.ensures.listens;
    comes_to = c.in-Err-listen.ensures.ports;
  };
})
