use Rattle.workload.proofs.LeftLemmas.{left_at_first}
use Rattle.workload.proofs.loads.Load.new.Goals as goal

pub returns : goal.returns
returns c = left_at_first c.args.seed c.args.sessions c.args.uploads
