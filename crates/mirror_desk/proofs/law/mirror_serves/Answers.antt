use Rattle.mirror_desk.proofs.Sessions.{chain_served}
use Rattle.mirror_desk.proofs.law.mirror_serves.Goals as goal

pub returns : goal.returns
returns c = chain_served
