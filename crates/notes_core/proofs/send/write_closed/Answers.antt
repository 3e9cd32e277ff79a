use Rattle.notes_core.specs.Shown.{refusal_data}
use Rattle.notes_core.proofs.Sent.{◌⊕◌, record_sent, sent}
use Rattle.notes_core.proofs.send.write_closed.Goals as goal

pub returns : goal.returns
unfolding refusal_data
returns c =
    record_sent (sent c.in_ok-begin_object.ensures) (c.in_ok-write_date.ensures ⊕ c.in_ok-members.ensures) (sent c.in_ok-end_object.ensures)
