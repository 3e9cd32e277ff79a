use Rattle.std.proofs.Common.{flat_map, List, subst}
use Rattle.osm_json.specs.Sent.{Appends, tokens_of}
use Rattle.notes_core.specs.Shown.{comment_data}
use Rattle.notes_core.specs.declared.notes.NoteComment.{NoteComment}
use Rattle.notes_core.proofs.Sent.{◌⨾◌}
use Rattle.notes_core.proofs.send.write_kept.Goals as goal

pub returns : goal.returns
returns c =
    subst (λ (cs : List NoteComment). Appends c.args.out.now c.write_comments.new.out (flat_map (λ x. tokens_of (comment_data x)) cs))
    c.comments.ensures.all (c.in_ok-write_said.ensures ⨾ c.in_ok-write_comments.ensures)
