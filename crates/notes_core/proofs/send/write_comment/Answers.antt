use Rattle.notes_core.specs.Shown.{comment_data}
use Rattle.notes_core.proofs.Sent.{◌⊕◌, record_sent, sent}
use Rattle.notes_core.proofs.send.write_comment.Goals as goal

pub returns : goal.returns
unfolding comment_data
returns c =
    let action = simp c.action_name.ensures at c.in_ok-members.ensures in
    let text = simp c.as_str.ensures at c.in_ok-members-2.ensures in
    let owner = simp (c.uid.ensures, c.user.ensures) at c.in_ok-members-3.ensures in
    record_sent (sent c.in_ok-begin_object.ensures) (action ⊕ c.in_ok-write_date.ensures ⊕ text ⊕ owner) (sent c.in_ok-end_object.ensures)
