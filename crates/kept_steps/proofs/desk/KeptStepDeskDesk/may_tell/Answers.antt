use Rattle.kept_steps.specs.Kept.{kept_front}
use Rattle.kept_steps.proofs.Kept.{still_allowed}
use Rattle.kept_steps.proofs.desk.KeptStepDeskDesk.may_tell.Goals as goal

pub returns-clause-allowed : goal.returns-clause-allowed
returns-clause-allowed g c =
    rw (← c.self.view_is)
    (λ before message moment reply allowed.
    still_allowed g.S.Stepped.steps before (kept_front c.self.inside.desk c.self.inside.keeper) message moment reply c.keep_list.new.keeper
    c.keep_list.ensures.stays c.keep_list.ensures.receipts c.keep_list.ensures.failed allowed)
