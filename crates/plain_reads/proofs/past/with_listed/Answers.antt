use Rattle.std.proofs.Common.{map, rules, ap, ◌∙◌}
use Rattle.std.specs.Prelude.{filter}
use Rattle.std.proofs.lemmas.Fn.{filter_same}
use Rattle.osm_base.specs.Key.{lists_key}
use Rattle.osm_element.specs.Elements.{keys}
use Rattle.osm_element.specs.declared.elements.Elements.{Elements}
use Rattle.osm_model.specs.Past.{is_last_shown, in_full_unmarked}
use Rattle.osm_model.specs.Reads.{current_shown}
use Rattle.plain_reads.proofs.Passed.{passing_two}
use Rattle.plain_reads.proofs.past.with_listed.Goals as goal

pub returns : goal.returns
returns c =
    let E : Elements = c.args.elements.now in
    c.in_ok-shown.ensures
    ∙ ap (map (current_shown E))
    (c.as_slice.ensures.value
    ∙ filter_same _ (is_last_shown E) _ (λ x b f2 h. search rules) _ _ c.retain.ensures.filtered
    ∙ ap (filter (is_last_shown E)) c.given_keys_once-rising.ensures
    ∙ passing_two (lists_key c.in_ok-listed.listed.items) (is_last_shown E) (in_full_unmarked E c.args.key) c.in_ok-listed.ensures (keys E))
