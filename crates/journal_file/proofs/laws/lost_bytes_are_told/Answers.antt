use Rattle.journal_file.proofs.Lost.{lost_told}
use Rattle.journal_file.proofs.laws.lost_bytes_are_told.Goals as goal

pub returns : goal.returns
returns c = lost_told
