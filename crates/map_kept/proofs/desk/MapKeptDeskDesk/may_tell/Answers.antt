use Rattle.map_machine.specs.Machine.{map_rules}
use Rattle.api_desk.specs.HubDesk.{map_row, map_rows_stay}
use Rattle.kept_desk.specs.Kept.{kept_by}
use Rattle.kept_desk.proofs.Kept.{allowed_still}
use Rattle.map_kept.proofs.desk.MapKeptDeskDesk.may_tell.Goals as goal

pub returns-clause-allowed : goal.returns-clause-allowed
returns-clause-allowed g c =
    rw (← c.self.view_is)
    (λ before message moment reply allowed.
    allowed_still map_rules map_row map_rows_stay before (kept_by c.self.inside.desk c.self.inside.keeper) (kept_by c.keep.new.desk c.keep.new.keeper)
    message moment reply c.keep.ensures.session c.keep.ensures.stays c.keep.ensures.receipts c.keep.ensures.failed allowed)
