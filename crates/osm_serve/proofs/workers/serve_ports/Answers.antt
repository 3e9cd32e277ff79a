use Rattle.std.proofs.Common.{[], true, false, map, subst, ◌∙◌, arith}
use Rattle.std.proofs.lemmas.List.{length-map}
use Rattle.map_machine.specs.Machine.{map_rules}
use Rattle.api_desk.specs.HubDesk.{map_row}
use Rattle.snapshot_hub.specs.Closed.{HasClosed}
use Rattle.desk_serve.proofs.Working.{ports_served}
use Rattle.osm_serve.proofs.Serving.{links_chain, served_stay}
use Rattle.osm_serve.proofs.workers.serve_ports.Goals as goal

pub returns-then-failed-clause-serves : goal.returns-then-failed-clause-serves
returns-then-failed-clause-serves g c =
    ports_served map_rules map_row c.args.users.now g.N.HubName.sessions (map g.P.PortOutside.told c.args.ports.now.items) (map g.P.PortOutside.told c.serve_by.new.ports.items)
    c.in-Ok.sessions.items c.in-Ok-serve_by.sessions.items c.in-Ok-serve_by.failed true links_chain served_stay c.points_are_consistent.ensures
    (length-map c.args.ports.now.items g.P.PortOutside.told ∙ omega (arith, c.requires.count, c.requires.seated, c.args.ports.now.ok)) (c.in-Ok.ensures.count ∙ c.requires.seated)
    c.in-Ok.ensures.fresh c.in-Ok-serve_by.ensures.served c.if-failed.true (subst (λ l. HasClosed map_rules g.N.HubName.sessions l []) c.deref.ensures.value c.close_with.ensures.ended)

pub returns-in-Ok-serve_by-clause-serves : goal.returns-in-Ok-serve_by-clause-serves
returns-in-Ok-serve_by-clause-serves g c =
    ports_served map_rules map_row c.args.users.now g.N.HubName.sessions (map g.P.PortOutside.told c.args.ports.now.items) (map g.P.PortOutside.told c.serve_by.new.ports.items)
    c.in-Ok.sessions.items c.in-Ok-serve_by.sessions.items c.in-Ok-serve_by.failed false links_chain served_stay c.points_are_consistent.ensures
    (length-map c.args.ports.now.items g.P.PortOutside.told ∙ omega (arith, c.requires.count, c.requires.seated, c.args.ports.now.ok)) (c.in-Ok.ensures.count ∙ c.requires.seated)
    c.in-Ok.ensures.fresh c.in-Ok-serve_by.ensures.served c.if-failed.false (subst (λ l. HasClosed map_rules g.N.HubName.sessions l []) c.deref.ensures.value c.close_with.ensures.ended)
