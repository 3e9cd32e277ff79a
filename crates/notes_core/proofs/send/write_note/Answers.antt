use Rattle.std.proofs.Common.{List, ◌++◌, codes}
use Rattle.std.specs.Prelude.{option_copied}
use Rattle.osm_json.specs.Sent.{tokens_of}
use Rattle.osm_json.specs.Shown.{list_of}
use Rattle.notes_core.specs.Sent.{said_before, said_by}
use Rattle.notes_core.specs.Shown.{comment_data, note_data, life_fields}
use Rattle.notes_core.specs.declared.notes.NoteComment.{NoteComment}
use Rattle.notes_core.proofs.Sent.{◌⊕◌, both_sent, list_sent, member_sent, record_sent, sent}
use Rattle.notes_core.proofs.send.write_note.Goals as goal

pub returns : goal.returns
unfolding note_data life_fields
returns c =
    let earlier : List NoteComment = said_before (option_copied c.args.before) in
    let next : List NoteComment = said_by (option_copied c.args.next) in
    let said = both_sent (λ (x : NoteComment). tokens_of (comment_data x)) earlier next c.in_ok-write_before.ensures c.in_ok-write_next.ensures in
    let list = list_sent comment_data (earlier ++ next) (sent c.in_ok-begin_array.ensures) said (sent c.in_ok-end_array.ensures) in
    record_sent (sent c.in_ok-begin_object.ensures)
    (c.in_ok-write_end.ensures ⊕ member_sent (codes "comments") (list_of comment_data (earlier ++ next)) (sent c.in_ok-key.ensures) list ⊕ c.in_ok-write_life.ensures)
    (sent c.in_ok-end_object.ensures)
