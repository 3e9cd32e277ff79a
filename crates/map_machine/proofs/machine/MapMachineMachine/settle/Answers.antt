use Rattle.map_machine.proofs.machine.MapMachineMachine.settle.Goals as goal

pub returns-clause-acts : goal.returns-clause-acts
returns-clause-acts g c = λ begun command made later.
    c.settle_plan.ensures begun command made (record { since = later.since; taken = later.taken; comes_to = later.comes_to })
