use Rattle.std.proofs.Common.{length, Some, refl, ap, ◌∙◌}
use Rattle.osm_outside.specs.Told.{finding}
use Rattle.api_desk.specs.HubDesk.{map_row, map_rows_stay}
use Rattle.map_machine.specs.Machine.{map_rules}
use Rattle.kept_desk.proofs.Sendings.{in_sendings}
use Rattle.kept_desk.proofs.Told.{told_chain, served_of}
use Rattle.desk_serve.proofs.Keeping.{keeps_link, unkept_start}
use Rattle.desk_serve.proofs.Sound.{sound_of}
use Rattle.map_kept.proofs.ports.serve_by_desk.Goals as goal

pub returns-in-Ok : goal.returns-in-Ok
returns-in-Ok g c =
    let new = c.answer_link-end.new.desk in
    let before = g.L.Outside.told c.args.link.now in
    let after = g.L.Outside.told c.answer_link-end.new.link in
    let fresh = c.freshen_session.new.self in
    keeps_link map_rules map_row c.args.desk.now fresh new (length fresh.desk.known.front) before (g.L.Outside.told c.learn.new.self) after c.answer_link-end.result
    (told_chain map_row map_rows_stay) (served_of map_row) in_sendings
    c.in-Ok.ensures.users c.in-Ok.ensures.ok refl c.in-Ok.ensures.receipts c.in-Ok.ensures.failed
    (c.learn.ensures.found ∙ ap (λ l. finding (Some (length l)) before) c.in-Ok.ensures.found)
    c.answer_link-end.ensures.told
    (sound_of map_rules c.points_are_consistent.ensures new.desk.known.front c.law.ensures)

pub returns-in-Err : goal.returns-in-Err
returns-in-Err g c =
    let fresh = c.freshen_session.new.self in
    unkept_start map_rules map_row c.args.desk.now fresh (g.L.Outside.told c.args.link.now) c.link_left_alone.ensures c.in-Err.ensures.err
    (sound_of map_rules c.points_are_consistent.ensures fresh.desk.known.front c.law-in-Err.ensures)
