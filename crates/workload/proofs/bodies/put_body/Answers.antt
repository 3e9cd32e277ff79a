use Rattle.workload.specs.Upload.{body}
use Rattle.workload.proofs.PutLemmas.{three_put}
use Rattle.workload.proofs.bodies.put_body.Goals as goal

pub returns-clause-body : goal.returns-clause-body
unfolding body
returns-clause-body c = three_put _ _ _ _ _ _ _ c.in_ok-put.ensures c.in_ok-last.ensures.nodes c.in_ok-put-2.ensures
