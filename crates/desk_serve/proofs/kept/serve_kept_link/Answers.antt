use Rattle.std.proofs.Common.{length, Some, refl, ap, ◌∙◌}
use Rattle.osm_outside.specs.Told.{finding}
use Rattle.kept_desk.specs.Kept.{Tells, shows_kept, Withholds, AllowsKept}
use Rattle.desk_serve.proofs.Keeping.{keeps_link, unkept_start, answers_seen, sound_at}
use Rattle.desk_serve.proofs.Sound.{sound_of}
use Rattle.desk_serve.proofs.kept.serve_kept_link.Goals as goal

pub returns-in-Ok : goal.returns-in-Ok
returns-in-Ok g c =
    let rules = g.M.Machine.rules in
    let row = g.Q.SessionDesk.answers in
    let keeps = g.Q.SessionDesk.keeps in
    let kept = g.Q.KeptSession.kept in
    let laws = g.met.Q.KeptSession in
    let fresh = c.freshen_session.new.self in
    let new = c.answer_link-end.new.desk in
    let before = g.L.Outside.told c.args.link.now in
    let learned = g.L.Outside.told c.learn.new.self in
    let after = g.L.Outside.told c.answer_link-end.new.link in
    let end = c.answer_link-end.result in
    keeps_link rules row (kept c.args.desk.now) (kept fresh) (kept new) (length (kept fresh).desk.known.front) before learned after end
    c.told_chain.ensures c.kept_is_served.ensures.served c.kept_is_served.ensures.same
    c.in-Ok.ensures.users c.in-Ok.ensures.ok refl c.in-Ok.ensures.receipts c.in-Ok.ensures.failed
    (c.learn.ensures.found ∙ ap (λ l. finding (Some (length l)) before) c.in-Ok.ensures.found)
    (answers_seen kept g.Q.Desk.allows g.Q.Desk.tells g.Q.Desk.shows g.Q.Desk.withholds (AllowsKept row) Tells shows_kept Withholds
    (λ old new e. laws.allowed_kept old new e.message e.moment e.answer) laws.tells_kept laws.shows_receipts laws.withholds_kept
    fresh new learned after end c.answer_link-end.ensures.told)
    (sound_at rules (keeps new) (kept new).desk (laws.same_session new)
    (sound_of rules c.points_are_consistent.ensures (keeps new).known.front c.law.ensures))

pub returns-in-Err : goal.returns-in-Err
returns-in-Err g c =
    let rules = g.M.Machine.rules in
    let keeps = g.Q.SessionDesk.keeps in
    let kept = g.Q.KeptSession.kept in
    let laws = g.met.Q.KeptSession in
    let fresh = c.freshen_session.new.self in
    unkept_start rules g.Q.SessionDesk.answers (kept c.args.desk.now) (kept fresh)
    (g.L.Outside.told c.args.link.now) c.link_left_alone.ensures c.in-Err.ensures.err
    (sound_at rules (keeps fresh) (kept fresh).desk (laws.same_session fresh)
    (sound_of rules c.points_are_consistent.ensures (keeps fresh).known.front c.law-in-Err.ensures))
