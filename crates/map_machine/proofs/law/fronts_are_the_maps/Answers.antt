use Rattle.map_machine.proofs.Journals.{legal_front}
use Rattle.map_machine.proofs.law.fronts_are_the_maps.Goals as goal

pub returns : goal.returns
returns c = legal_front
