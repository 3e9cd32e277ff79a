use Rattle.std.proofs.Common.{◌≡◌, ◌∷◌, refl, ◌∙◌}
use Rattle.osm_serve.proofs.SentLemmas.{added, all_sent, begun, one_more}
use Rattle.osm_serve.proofs.sending.send_each.Goals as goal

pub requests-init : goal.requests-init
requests-init c = record { users = refl; at = begun _ _ _ _ c.len.ensures refl refl }

pub requests-preserved : goal.requests-preserved
requests-preserved c =
    let so_far = c.requests.invariant in
    let is : c.requests.load ≡ c.in-Some.sent ∷ c.next_request.new.self = rw c.in-Some.is at c.in_ok-sent.ensures in
    record {
      users = c.in_ok-status.ensures.users ∙ so_far.users;
      at =
          one_more _ _ _ _ _ _ _ _ _ _ _ _ so_far.users is c.in_ok-status.ensures.sent refl
          (added c.requests.replies.refused c.from.result c.refuses.result _ c.from.ensures c.refuses.ensures)
          (added c.requests.replies.lacking c.from-in-Some.result c.lacks_memory.result _ c.from-in-Some.ensures c.lacks_memory.ensures)
          so_far.at;
    }

pub returns : goal.returns
returns c = all_sent _ _ _ _ _ _ (rw c.in_default.is at c.in_ok-sent.ensures).0 c.requests.invariant.at
