use Rattle.std.proofs.Common.{◌≡◌, ◌<◌, subst}
use Rattle.hub_core.specs.Journal.{calls_of}
use Rattle.hub_core.proofs.books.Book.sessions.Goals as goal

pub returns-clause-past : goal.returns-clause-past
returns-clause-past g c session le =
    subst (λ entries. calls_of g.M.Machine.rules.tag_of session entries ≡ 0) c.self.view_is (c.sessions.ensures.past session le)

pub returns-clause-least : goal.returns-clause-least
returns-clause-least g c session is =
    subst (λ entries. 0 < calls_of g.M.Machine.rules.tag_of session entries) c.self.view_is (c.sessions.ensures.least session is)
