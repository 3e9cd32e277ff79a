use Rattle.std.proofs.Common.{◌≡◌, List, [], ◌∷◌, drop, flat_map, codes, ap, ◌∙◌}
use Rattle.osm_element.specs.Tags.{Tag}
use Rattle.osm_json.specs.Shown.{field}
use Rattle.osm_json.specs.Rows.{tags}
use Rattle.osm_json.specs.Added.{field_text}
use Rattle.osm_json.proofs.Growing.{◌⨾◌, becomes, first_and_rest, pairs_text}
use Rattle.osm_json.proofs.rows.pairs.Goals as goal

pub returns : goal.returns
returns c =
    let all = c.args.tags.now in
    let first : Tag = (c.pair.result.0.now, c.pair.result.1.now) in
    let rest : List Tag = drop 1 all in
    let whole : first ∷ rest ≡ all = ap (λ (p : Tag). p ∷ rest) c.pair.ensures ∙ first_and_rest all ([], []) c.requires in
    becomes (pairs_text first.0 first.1 rest ∙ ap (λ (l : List Tag). flat_map field_text (field (codes "tags") (tags l) ∷ [])) whole)
    (c.in_ok-text.ensures ⨾ c.in_ok-text-2.ensures ⨾ c.in_ok-later_pairs.ensures ⨾ c.in_ok-piece.ensures)
