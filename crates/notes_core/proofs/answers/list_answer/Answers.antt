use Rattle.std.proofs.Common.{◌++◌, List, ℕ, flat_map, codes, ap, ◌∙◌}
use Rattle.serde_json.specs.Written.{compact_text}
use Rattle.osm_json.specs.Shown.{document, list_of}
use Rattle.notes_core.specs.Search.{numbered}
use Rattle.notes_core.specs.Shown.{row_data}
use Rattle.notes_core.specs.World.{state_of}
use Rattle.notes_core.proofs.Sent.{text_behind}
use Rattle.notes_core.proofs.answers.list_answer.Goals as goal

pub returns : goal.returns
returns c =
    c.from_vec.ensures
    ∙ c.into_inner.ensures.items
    ∙ text_behind c.new-out.result c.write_list.new.out (document (codes "notes") (list_of row_data (flat_map (numbered (state_of c.args.world.now)) c.args.ids.now))) c.new-out.ensures.tokens c.in_ok-write_list.ensures
    ∙ ap (λ (front : List ℕ). front ++ compact_text (document (codes "notes") (list_of row_data (flat_map (numbered (state_of c.args.world.now)) c.args.ids.now)))) (c.new-out.ensures.before ∙ c.in_ok-status_bytes.ensures)
