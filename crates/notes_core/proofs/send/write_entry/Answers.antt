use Rattle.osm_json.specs.Sent.{tokens_of}
use Rattle.notes_core.specs.Act.{comment_of}
use Rattle.notes_core.specs.Shown.{comment_data}
use Rattle.notes_core.specs.declared.notes.NoteComment.{NoteComment}
use Rattle.notes_core.proofs.Sent.{single_sent}
use Rattle.notes_core.proofs.send.write_entry.Goals as goal

pub returns : goal.returns
returns c =
    let e = c.args.entry.now in
    let written = simp (c.action.ensures, c.text.ensures) at c.in_ok-write_comment.ensures in
    single_sent (λ (x : NoteComment). tokens_of (comment_data x)) (comment_of e.caller e.stamp e.command) written
