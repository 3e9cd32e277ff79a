use Rattle.notes_core.specs.Shown.{life_fields}
use Rattle.notes_core.proofs.Sent.{◌⊕◌}
use Rattle.notes_core.proofs.send.write_life.Goals as goal

pub returns : goal.returns
unfolding life_fields
returns c =
    let status = simp c.status_name.ensures at c.in_ok-members-2.ensures in
    c.in_ok-write_date.ensures ⊕ c.in_ok-members.ensures ⊕ c.in_ok-write_position.ensures ⊕ status
