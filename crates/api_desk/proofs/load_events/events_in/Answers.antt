use Rattle.std.proofs.Common.{◌≡◌, ◌∷◌}
use Rattle.std.proofs.lemmas.Result.{err_from_is_err_and}
use Rattle.api_desk.proofs.Loads.{begun, one_more, all_added, failed}
use Rattle.api_desk.proofs.load_events.events_in.Goals as goal

pub requests-init : goal.requests-init
requests-init c = begun _ _ _ c.in_ok-events.ensures

pub requests-preserved : goal.requests-preserved
requests-preserved c =
    let is : c.requests.load ≡ c.in-Some.sent ∷ c.next_request.new.self = rw c.in-Some.is at c.in_ok-sent.ensures in
    one_more _ _ _ _ _ _ _ _ is c.in_ok-command.ensures c.in_ok-add_events.ensures c.requests.invariant

pub returns : goal.returns
returns c = all_added _ _ _ _ (rw c.in_default.is at c.in_ok-sent.ensures).0 c.requests.invariant

pub returns-in_err-command : goal.returns-in_err-command
returns-in_err-command c =
    let is : c.requests.load ≡ c.in-Some.sent ∷ c.next_request.new.self = rw c.in-Some.is at c.in_ok-sent.ensures in
    let made = err_from_is_err_and c.from_residual-in_err-command.result c.from_residual-in_err-command.ensures.1 in
    rw (made.1, made.2) (failed _ _ _ _ _ _ _ is c.in_err-command.ensures c.requests.invariant)
