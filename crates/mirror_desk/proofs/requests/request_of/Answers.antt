use Rattle.std.proofs.Common.{◌≡◌, ℕ, Option, Result, sym, ◌∙◌, subst, option_copied}
use Rattle.osm_change.specs.declared.refusals.Refusal.{Refusal}
use Rattle.mirror_desk.specs.Gives.{GivesAsked, GivesAsk}
use Rattle.mirror_desk.specs.Request.{Ask, asked_by, ask_in}
use Rattle.mirror_desk.proofs.Asking.{asked_so, ask_given}
use Rattle.mirror_desk.proofs.requests.request_of.Goals as goal

pub returns-clause-gives : goal.returns-clause-gives
returns-clause-gives c =
    let users = c.args.users.now in
    let m = c.args.message.now in
    let line = c.in_ok-line.line in
    let caller = option_copied c.in_ok-caller.caller in
    let gives = subst (λ (large_from : Option ℕ). GivesAsked (asked_by large_from caller m.body line) m.body c.asked_by.result) c.large_from.ensures (c.asked_by.ensures.gives m.body) in
    subst
    (λ (asks : Result Ask Refusal). GivesAsk (ask_in asks) m.body c.asked_by.result)
    (sym (asked_so users m line caller c.in_ok-line.ensures.gives (sym c.is_xml.ensures ∙ c.if-is_xml.false) c.in_ok-caller.ensures))
    (ask_given (asked_by users.large_from caller m.body line) m.body c.asked_by.result gives)
