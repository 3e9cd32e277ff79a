use Rattle.server_frame.proofs.OnLink.{answers_link, answers_told}
use Rattle.server_frame.proofs.link.answer_link_within.Goals as goal

pub returns-clause-answers : goal.returns-clause-answers
returns-clause-answers g c =
    answers_link c.args.body_limit g.D.Desk.allows c.args.desk.now c.serve_desk.new.desk (g.L.Outside.told c.args.link.now) (g.L.Outside.told c.serve_desk.new.link)
    c.serve_desk.result c.serve_desk.ensures.serves

pub returns-clause-told : goal.returns-clause-told
returns-clause-told g c =
    answers_told c.args.body_limit g.D.Desk.allows g.D.Desk.tells g.D.Desk.shows g.D.Desk.withholds c.args.desk.now c.serve_desk.new.desk (g.L.Outside.told c.args.link.now) (g.L.Outside.told c.serve_desk.new.link)
    c.serve_desk.result c.serve_desk.ensures.told
