use Rattle.std.proofs.Common.{◌≡◌, ◌∷◌, [], ap, sym, ◌∙◌, map, rules}
use Rattle.snapshot_hub.specs.Known.{newcomer}
use Rattle.desk_serve.proofs.Closing.{pipe_of_one}
use Rattle.desk_serve.proofs.Working.{seen_at}
use Rattle.desk_serve.proofs.pipe.serve_by_one.Goals as goal

pub returns-clause-served : goal.returns-clause-served
returns-clause-served g c =
    let knows = g.K.DeskMaker.knows in
    let keeps = g.D.SessionDesk.keeps in
    let desk = c.serve_link-end.new.desk in
    let first : c.args.sessions.items ≡ c.in-Some.session ∷ [] = search rules in
    let last : c.push_reserved.new.self.items ≡ c.session_of.result ∷ [] = search rules in
    pipe_of_one g.M.Machine.rules g.D.SessionDesk.answers (g.K.DeskMaker.users c.args.maker.now) (map knows c.args.sessions.items) (map knows c.push_reserved.new.self.items)
    (knows c.in-Some.session) (keeps c.in_ok-desk.desk) (keeps desk) _ _ c.serve_link-end.result
    c.served_stay.ensures c.points_are_consistent.ensures (ap (λ l. map knows l) first)
    (ap (λ l. map knows l) last ∙ ap (λ k. k ∷ []) (c.session_of.ensures ∙ ap (λ d. d.known) (c.requires.same desk)))
    (λ number. seen_at knows (λ k. k ≡ newcomer number) c.args.sessions.items number (c.requires.fresh number))
    (sym (c.requires.same c.in_ok-desk.desk) ∙ c.in_ok-desk.ensures) c.serve_link-end.ensures
