use Rattle.osm_base.specs.declared.limits.TheConstants.{PIECE_LIMIT}
use Rattle.mirror_serve.proofs.Serving.{mirror_served, mirror_unserved}
use Rattle.mirror_serve.proofs.link.serve_mirror.Goals as goal

pub returns : goal.returns
returns g c =
    let told = c.answer_link_within.ensures.told in
    mirror_served c.args.setting.now c.new-follower.result c.in-Ok.desk c.answer_link_within.new.desk (g.L.Outside.told c.args.link.now)
    (g.L.Outside.told c.answer_link_within.new.link) c.answer_link_within.result c.mirror_serves.ensures c.new-follower.ensures c.in-Ok.ensures c.answer_link_within.ensures.answers
    (c.always_tells.ensures c.in-Ok.desk c.answer_link_within.new.desk told.answers.exchanges c.answer_link_within.result told.told)

pub returns-in_default : goal.returns-in_default
returns-in_default g c = mirror_unserved c.args.setting.now (g.L.Outside.told c.args.link.now) (c.link_left_alone_within.ensures PIECE_LIMIT)
