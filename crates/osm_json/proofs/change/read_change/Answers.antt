use Rattle.std.proofs.Common.{sym, ap, ◌∙◌, subst}
use Rattle.serde_json.specs.Read.{read}
use Rattle.osm_json.specs.Reading.{Gives, in_json, operations_in, blocks_of}
use Rattle.osm_json.proofs.Documents.{data_read, data_missing}
use Rattle.osm_json.proofs.Raws.{raw_of}
use Rattle.osm_json.proofs.change.read_change.Goals as goal

pub returns-in-Ok-clause-value : goal.returns-in-Ok-clause-value
returns-in-Ok-clause-value c =
    let same = data_read c.args.body.now c.in-Ok.ensures.cases.1 ∙ ap read (sym c.in-Ok.ensures.cases.0) in
    subst (λ o. Gives (λ v. v.items) c.read_text.result (in_json (λ d. operations_in (blocks_of d)) o)) (sym same) c.read_text.ensures.value

pub returns-in-Ok-clause-raw : goal.returns-in-Ok-clause-raw
returns-in-Ok-clause-raw c = raw_of c.args.body.now c.read_text.result (returns-in-Ok-clause-value c) c.read_text.ensures.few

pub returns-in-Err-clause-value : goal.returns-in-Err-clause-value
returns-in-Err-clause-value c = ap (in_json (λ d. operations_in (blocks_of d))) (data_missing c.args.body.now (λ utf8. absurd (c.in-Err.ensures.cases.0 utf8)))
