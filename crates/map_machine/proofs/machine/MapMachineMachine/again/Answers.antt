use Rattle.map_machine.proofs.machine.MapMachineMachine.again.Goals as goal

pub returns : goal.returns
returns g c = λ begun command made later. c.settle_again.ensures begun command made
