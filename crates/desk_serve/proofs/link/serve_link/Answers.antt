use Rattle.std.proofs.Common.{length, Some, refl, ap, ◌∙◌}
use Rattle.osm_outside.specs.Told.{finding}
use Rattle.desk_serve.proofs.Serving.{serves_link, unstarted}
use Rattle.desk_serve.proofs.Sound.{sound_of}
use Rattle.desk_serve.proofs.link.serve_link.Goals as goal

pub returns-in-Ok : goal.returns-in-Ok
returns-in-Ok g c =
    let rules = g.M.Machine.rules in
    let keeps = g.D.SessionDesk.keeps in
    let told = c.answer_link-end.ensures.told in record {
      serves = serves_link rules g.D.SessionDesk.answers g.D.Desk.allows keeps c.args.desk.now c.freshen.new.self c.answer_link-end.new.desk
          (length (keeps c.freshen.new.self).known.front)
          (g.L.Outside.told c.args.link.now) (g.L.Outside.told c.learn.new.self) (g.L.Outside.told c.answer_link-end.new.link) c.answer_link-end.result
          c.exchanges_chain.ensures c.in-Ok.ensures.users c.in-Ok.ensures.ok refl
          (c.learn.ensures.found ∙ ap (λ l. finding (Some (length l)) (g.L.Outside.told c.args.link.now)) c.in-Ok.ensures.found)
          c.answer_link-end.ensures.answers
          (sound_of rules c.points_are_consistent.ensures (keeps c.answer_link-end.new.desk).known.front c.law.ensures);
      tells = c.always_tells.ensures c.freshen.new.self c.answer_link-end.new.desk told.answers.exchanges c.answer_link-end.result told.told;
    }

pub returns-in-Err : goal.returns-in-Err
returns-in-Err g c =
    let rules = g.M.Machine.rules in
    let keeps = g.D.SessionDesk.keeps in
    record {
      serves = unstarted rules g.D.SessionDesk.answers (keeps c.args.desk.now) (keeps c.freshen.new.self)
          (g.L.Outside.told c.args.link.now)
          c.link_left_alone.ensures
          c.in-Err.ensures.err
          (sound_of rules c.points_are_consistent.ensures (keeps c.freshen.new.self).known.front c.law-in-Err.ensures);
      tells = tt;
    }
