use Rattle.std.proofs.Common.{◌∙◌, length, ap}
use Rattle.api_desk.specs.HubDesk.{map_row}
use Rattle.kept_desk.specs.Kept.{InHand}
use Rattle.kept_desk.proofs.Kept.{answered_so}
use Rattle.map_kept.proofs.desk.MapKeptDeskDesk.answer.Goals as goal

pub returns-clause-allowed : goal.returns-clause-allowed
returns-clause-allowed g c =
    rw (← c.self.view_is)
    (answered_so map_row _ _ _ _ _ c.answer-reply.ensures.allowed
    (ap (λ (k : InHand). k.tells_of) c.note.ensures ∙ (c.len-seen.ensures ∙ ap length c.front.ensures))
    (ap (λ (k : InHand). k.receipts) c.note.ensures) (ap (λ (k : InHand). k.failed) c.note.ensures))
