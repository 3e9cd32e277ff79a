use Rattle.std.proofs.Common.{List, [], ◌∷◌, ◌++◌, ap, ◌∙◌}
use Rattle.json.specs.Token.{Token}
use Rattle.osm_json.proofs.Growing.{◌⨾◌, becomes}
use Rattle.osm_json.proofs.Placing.{written_alone}
use Rattle.osm_json.proofs.body.Body.escaped.Goals as goal

pub returns : goal.returns
returns c =
    let wrote = c.in_ok-string.ensures in
    let text = c.args.text.now in
    let before = wrote.room.0 ∙ c.new-out.ensures.before ∙ c.new.ensures.items in
    let tokens = wrote.ok ∙ ap (λ (l : List Token). l ++ Token.string text ∷ []) c.new-out.ensures.tokens in
    let escaped = c.as_slice.ensures.value ∙ c.into_inner-escaped.ensures.items ∙ written_alone c.string.new.self.before c.string.new.self.tokens text before tokens in
    c.in_ok-piece.ensures ⨾ becomes escaped c.in_ok-piece-2.ensures
