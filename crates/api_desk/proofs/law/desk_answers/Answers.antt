use Rattle.api_desk.proofs.Sessions.{chain_serves}
use Rattle.api_desk.proofs.law.desk_answers.Goals as goal

pub returns : goal.returns
returns c = chain_serves
