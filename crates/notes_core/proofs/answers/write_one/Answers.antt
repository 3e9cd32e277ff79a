use Rattle.std.proofs.Common.{◌++◌, codes}
use Rattle.std.specs.Prelude.{option_copied}
use Rattle.notes_core.specs.Sent.{said_before, said_by, note_with}
use Rattle.notes_core.specs.Shown.{note_data}
use Rattle.notes_core.proofs.Sent.{document_sent, sent}
use Rattle.notes_core.proofs.answers.write_one.Goals as goal

pub returns : goal.returns
returns c =
    let head = c.args.head in
    document_sent (codes "note")
    (note_data head.id (note_with head.at head.created head.closed (said_before (option_copied c.args.before) ++ said_by (option_copied c.args.next))))
    (sent c.in_ok-begin_object.ensures) (sent c.in_ok-key.ensures) c.in_ok-write_note.ensures c.in_ok-write_version.ensures (sent c.in_ok-end_object.ensures)
