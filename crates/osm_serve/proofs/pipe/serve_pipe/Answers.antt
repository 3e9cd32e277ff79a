use Rattle.std.proofs.Common.{◌≡◌, ◌∷◌, [], ℕ, List, refl, sym, ◌∙◌, subst}
use Rattle.osm_model.specs.declared.commands.Entry.{Entry}
use Rattle.map_machine.specs.Machine.{map_rules}
use Rattle.api_desk.specs.HubDesk.{map_row}
use Rattle.snapshot_hub.specs.Known.{Known}
use Rattle.snapshot_hub.specs.Closed.{HasClosed}
use Rattle.desk_serve.proofs.Closing.{pipe_served, pipe_unserved, pipe_left_alone, first_is}
use Rattle.osm_serve.proofs.Serving.{served_stay}
use Rattle.osm_serve.proofs.pipe.serve_pipe.Goals as goal

pub returns-in_default : goal.returns-in_default
returns-in_default g c = pipe_unserved map_rules map_row c.args.users.now (g.L.Outside.told c.args.link.now) c.link_left_alone.ensures (c.points_are_consistent.ensures [] refl 0)

pub returns-in-Ok-serve_by_one : goal.returns-in-Ok-serve_by_one
returns-in-Ok-serve_by_one g c =
    let s = c.in-Ok-serve_by_one.ensures.served in
    let one : g.N.HubName.sessions ≡ 1 = sym c.requires.seated ∙ c.requires.one in
    let closed : HasClosed map_rules 1 (s.1 ∷ []) [] =
    subst (λ (n : ℕ). HasClosed map_rules n (s.1 ∷ []) []) one
    (subst (λ (l : List (Known Entry)). HasClosed map_rules g.N.HubName.sessions l []) (c.deref.ensures.value ∙ s.3) c.close_with.ensures.ended) in
    pipe_served map_rules map_row c.args.users.now s.0 s.1 (g.L.Outside.told c.args.link.now) (g.L.Outside.told c.serve_by_one.new.link) c.in-Ok-serve_by_one.end
    s.4 served_stay c.points_are_consistent.ensures (first_is c.in-Ok.sessions.items s.0 s.2 c.in-Ok.ensures.fresh) closed

pub returns : goal.returns
returns g c =
    pipe_left_alone map_rules map_row c.args.users.now (g.L.Outside.told c.args.link.now) (g.L.Outside.told c.serve_by_one.new.link) c.link_left_alone.ensures
    (c.points_are_consistent.ensures [] refl 0) c.in-Err.ensures.err
