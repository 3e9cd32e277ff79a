use Rattle.std.proofs.Common.{◌≡◌, length, ap, sym, ◌∙◌, subst, arith}
use Rattle.http_link.specs.Desk.{counted_reply}
use Rattle.step_hub.specs.Steps.{GrowsByOne}
use Rattle.step_hub.proofs.Beginnings.{nothing_done, one_done}
use Rattle.step_hub.proofs.held.Held.answer.Goals as goal

pub returns-then-self-clause-answered : goal.returns-then-self-clause-answered
returns-then-self-clause-answered g c =
    nothing_done (g.S.Stepped.steps c.args.setting.now) c.args.front.now c.args.grown.now c.args.message.now c.args.moment _
    (g.met.S.Stepped.memory_leaves c.args.setting.now c.args.front.now c.args.message.now c.args.moment c.requires.legal)

pub returns-then-not-catch_up-clause-answered : goal.returns-then-not-catch_up-clause-answered
returns-then-not-catch_up-clause-answered g c =
    nothing_done (g.S.Stepped.steps c.args.setting.now) c.args.front.now c.args.grown.now c.args.message.now c.args.moment _
    (g.met.S.Stepped.memory_leaves c.args.setting.now c.args.front.now c.args.message.now c.args.moment c.requires.legal)

pub returns-clause-answered : goal.returns-clause-answered
returns-clause-answered g c =
    let S = g.S.Stepped in
    let found = c.self.inside.front in
    let step = c.answer-reply.ensures in
    let was = c.self.invariant c.if-self.false in
    let left = S.list c.answer-reply.new.self in
    let reply = counted_reply c.answer-reply.result in
    let grows : GrowsByOne found left = subst (λ l. GrowsByOne l left) was step.grows in
    let caught = c.catch_up.ensures.all c.if-not-catch_up.false grows in
    let all : c.again.result ≡ left = c.again.ensures ∙ caught in
    one_done (S.steps c.args.setting.now) c.args.front.now found c.again.result c.args.grown.now _ c.args.message.now c.args.moment reply
    (c.begins.ensures.begins c.if-not-begins.false)
    (subst (λ l. S.steps c.args.setting.now found c.args.message.now c.args.moment reply l) (sym all)
    (subst (λ l. S.steps c.args.setting.now l c.args.message.now c.args.moment reply left) was step.step))
    (subst (λ l. GrowsByOne found l) (sym all) grows)
    (omega (arith, ap (λ l. length l) c.again.ensures, c.catch_up.ensures.more, c.len-2.ensures, c.len-found.ensures))

pub returns-clause-legal : goal.returns-clause-legal
returns-clause-legal g c =
    let S = g.S.Stepped in
    let found = c.self.inside.front in
    let left = S.list c.answer-reply.new.self in
    let grows : GrowsByOne found left = subst (λ l. GrowsByOne l left) (c.self.invariant c.if-self.false) c.answer-reply.ensures.grows in
    let all : c.again.result ≡ left = c.again.ensures ∙ c.catch_up.ensures.all c.if-not-catch_up.false grows in
    subst S.legal (sym all) c.catch_up.ensures.legal
