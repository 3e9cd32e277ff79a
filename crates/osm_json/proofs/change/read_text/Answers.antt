use Rattle.std.proofs.Common.{◌≡◌, option_map, sym, ap, ◌∙◌, subst}
use Rattle.serde_json.specs.Read.{read}
use Rattle.osm_json.specs.Reading.{Gives, in_json, operations_in, blocks_of}
use Rattle.osm_json.specs.Walked.{sight, outcome}
use Rattle.osm_json.proofs.Documents.{text_read}
use Rattle.osm_json.proofs.Walks.{walk_reads}
use Rattle.osm_json.proofs.change.read_text.Goals as goal

pub returns-in-Ok-clause-value : goal.returns-in-Ok-clause-value
returns-in-Ok-clause-value c =
    let h = rw c.in_ok-reader.ensures.ok at c.in-Ok.ensures in
    let same : in_json (λ d. operations_in (blocks_of d)) (read c.args.text.now) ≡ outcome (option_map sight c.in-Ok.found) =
    ap (in_json (λ d. operations_in (blocks_of d))) (text_read c.args.text.now h.source h.begins) ∙ sym (walk_reads h.source) ∙ ap outcome h.reads in
    subst (λ o. Gives (λ v. v.items) c.operations.result o) (sym same) c.operations.ensures.value
