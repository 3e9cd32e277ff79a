use Rattle.std.proofs.Common.{sym, ◌∙◌}
use Rattle.workload.proofs.LeftLemmas.{creation_next, upload_next, none_next}
use Rattle.workload.proofs.loads.Load.next_request.Goals as goal

pub returns-then-self : goal.returns-then-self
returns-then-self c =
    let load = c.self.inside in
    sym c.self.view_is
    ∙ creation_next load.sessions load.uploads load.created load.sent load.number c.in_ok-sent.sent c.if-self.true c.in_ok-sent.ensures

pub returns-then-self-2 : goal.returns-then-self-2
returns-then-self-2 c =
    let load = c.self.inside in
    sym c.self.view_is
    ∙ upload_next load.sessions load.uploads load.created load.sent load.number c.in_ok-sent-2.last c.in_ok-sent-2.sent
    c.if-self.false c.if-self-2.true c.in_ok-sent-2.ensures.sent c.in_ok-sent-2.ensures.last

pub returns : goal.returns
returns c =
    let load = c.self.inside in
    let none = sym c.self.view_is ∙ none_next load.sessions load.uploads load.created load.sent load.number c.if-self.false c.if-self-2.false in
    (none, none)
