use Rattle.std.proofs.Common.{sym, ap, ◌∙◌, subst}
use Rattle.serde_json.specs.Read.{read}
use Rattle.osm_json.specs.Bodies.{Finds}
use Rattle.osm_json.proofs.Documents.{data_read, data_missing}
use Rattle.osm_json.proofs.single.object_body.Goals as goal

pub returns-in-Ok : goal.returns-in-Ok
returns-in-Ok c =
    let same = data_read c.args.body.now c.in-Ok.ensures.cases.1 ∙ ap read (sym c.in-Ok.ensures.cases.0) in
    subst (Finds c.object_text.result) (sym same) c.object_text.ensures

pub returns-in-Err : goal.returns-in-Err
returns-in-Err c = data_missing c.args.body.now (λ utf8. absurd (c.in-Err.ensures.cases.0 utf8))
