use Rattle.std.proofs.Common.{◌≡◌, ◌∙◌, sym, subst, arith}
use Rattle.hub_core.specs.Journal.{calls_of}
use Rattle.hub_core.proofs.counted.CountedJournal.sessions.Goals as goal

pub returns-in-Some-clause-past : goal.returns-in-Some-clause-past
returns-in-Some-clause-past g c session le =
    let tag_of = g.M.Machine.rules.tag_of in
    subst (λ entries. calls_of tag_of session entries ≡ 0) c.self.view_is (sym (c.self.invariant.1 session) ∙ c.in-Some.ensures.1 session (omega (arith, le, c.from.ensures)))

pub returns-in-None-clause-past : goal.returns-in-None-clause-past
returns-in-None-clause-past g c session le =
    let tag_of = g.M.Machine.rules.tag_of in
    subst (λ entries. calls_of tag_of session entries ≡ 0) c.self.view_is (sym (c.self.invariant.1 session) ∙ c.in-None.ensures session)
