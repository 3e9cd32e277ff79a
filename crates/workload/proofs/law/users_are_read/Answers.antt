use Rattle.workload.proofs.TableLemmas.{users_read}
use Rattle.workload.proofs.law.users_are_read.Goals as goal

pub returns : goal.returns
returns c = users_read
