use Rattle.std.proofs.Common.{◌++◌, List, ℕ, codes, ap, ◌∙◌}
use Rattle.std.specs.Prelude.{option_copied}
use Rattle.serde_json.specs.Written.{compact_text}
use Rattle.osm_json.specs.Shown.{document}
use Rattle.notes_core.specs.Sent.{said_before, said_by, note_with}
use Rattle.notes_core.specs.Shown.{note_data}
use Rattle.notes_core.proofs.Sent.{text_behind}
use Rattle.notes_core.proofs.answers.note_answer.Goals as goal

pub returns : goal.returns
returns c =
    c.from_vec.ensures
    ∙ c.into_inner.ensures.items
    ∙ text_behind c.new-out.result c.write_one.new.out (document (codes "note") (note_data c.args.head.id (note_with c.args.head.at c.args.head.created c.args.head.closed (said_before (option_copied c.args.before) ++ said_by (option_copied c.args.next))))) c.new-out.ensures.tokens c.in_ok-write_one.ensures
    ∙ ap (λ (front : List ℕ). front ++ compact_text (document (codes "note") (note_data c.args.head.id (note_with c.args.head.at c.args.head.created c.args.head.closed (said_before (option_copied c.args.before) ++ said_by (option_copied c.args.next)))))) (c.new-out.ensures.before ∙ c.in_ok-status_bytes.ensures)
