use Rattle.map_machine.proofs.Journals.{legal_of}
use Rattle.map_machine.proofs.law.journals_are_the_maps.Goals as goal

pub returns : goal.returns
returns c = legal_of
