use Rattle.std.proofs.Common.{sym, ap, ◌∙◌, subst}
use Rattle.serde_json.specs.Read.{read}
use Rattle.osm_json.specs.Reading.{Gives, in_json, or_shape, title_of}
use Rattle.osm_json.proofs.Documents.{data_read, data_missing}
use Rattle.osm_json.proofs.title.read_title.Goals as goal

pub returns-in-Ok : goal.returns-in-Ok
returns-in-Ok c =
    let same = data_read c.args.body.now c.in-Ok.ensures.cases.1 ∙ ap read (sym c.in-Ok.ensures.cases.0) in
    subst (λ o. Gives (λ t. t) c.read_title_text.result (in_json (λ d. or_shape 0 (title_of d)) o)) (sym same) c.read_title_text.ensures

pub returns-in-Err : goal.returns-in-Err
returns-in-Err c = ap (in_json (λ d. or_shape 0 (title_of d))) (data_missing c.args.body.now (λ utf8. absurd (c.in-Err.ensures.cases.0 utf8)))
