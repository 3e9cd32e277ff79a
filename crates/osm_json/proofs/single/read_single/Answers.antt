use Rattle.std.proofs.Common.{sym, ap, ◌∙◌, rules, FitsSigned, w64}
use Rattle.std.proofs.lemmas.Int.{to_z-of_z}
use Rattle.osm_json.specs.Reading.{◌>>=◌, or_shape}
use Rattle.osm_json.proofs.Raws.{single_is}
use Rattle.osm_json.specs.Found.{single_of_fields}
use Rattle.osm_json.proofs.Operations.{object_single, single_read}
use Rattle.osm_json.proofs.single.read_single.Goals as goal

pub returns-in-None-clause-value : goal.returns-in-None-clause-value
returns-in-None-clause-value c =
    single_read c.args.action c.args.kind c.args.id c.args.body.now _ c.in_ok-object.ensures ∙ ap (λ o. or_shape 1 (o >>= single_of_fields c.args.action c.args.kind c.args.id)) c.in-None.is

pub returns-in-Some-single_from-clause-value : goal.returns-in-Some-single_from-clause-value
returns-in-Some-single_from-clause-value c =
    let fits : FitsSigned w64 c.args.id = search rules in
    let made = simp to_z-of_z at c.single_from.ensures in
    single_read c.args.action c.args.kind c.args.id c.args.body.now _ c.in_ok-object.ensures ∙ ap (λ o. or_shape 1 (o >>= single_of_fields c.args.action c.args.kind c.args.id)) c.in-Some.is
    ∙ ap (or_shape 1) (sym made ∙ c.in-Some-single_from.is)

pub returns-clause-value : goal.returns-clause-value
returns-clause-value c =
    let fits : FitsSigned w64 c.args.id = search rules in
    let made = simp to_z-of_z at c.single_from.ensures in
    single_read c.args.action c.args.kind c.args.id c.args.body.now _ c.in_ok-object.ensures ∙ ap (λ o. or_shape 1 (o >>= single_of_fields c.args.action c.args.kind c.args.id)) c.in-Some.is
    ∙ ap (or_shape 1) (sym made ∙ c.in-None-single_from.is)

pub returns-in-Some-single_from-clause-raw : goal.returns-in-Some-single_from-clause-raw
returns-in-Some-single_from-clause-raw c = λ is.
    let fits : FitsSigned w64 c.args.id = search rules in
    let made = simp to_z-of_z at c.single_from.ensures in
    let h = c.in_ok-object.ensures in
    single_is c.args.action c.args.kind c.args.id h.source c.in-Some-single_from.single is
    (object_single c.args.action c.args.kind c.args.id h.source ∙ ap (λ o. o >>= single_of_fields c.args.action c.args.kind c.args.id) (sym h.members ∙ c.in-Some.is) ∙ sym made ∙ c.in-Some-single_from.is)
