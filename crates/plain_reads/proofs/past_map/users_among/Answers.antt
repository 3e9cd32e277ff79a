use Rattle.std.proofs.Common.{Bool, ◌&&◌, rules, ap, ◌∙◌}
use Rattle.std.specs.Prelude.{filter}
use Rattle.std.specs.List.{list_any}
use Rattle.std.proofs.lemmas.Fn.{filter_same}
use Rattle.osm_base.specs.Key.{lists_key}
use Rattle.osm_base.specs.declared.keys.Key.{Key}
use Rattle.osm_element.specs.Elements.{refs_of}
use Rattle.osm_model.specs.Past.{is_last_shown}
use Rattle.osm_model.specs.PastMap.{keys_of, lists_one}
use Rattle.plain_reads.proofs.Passed.{passing_alike}
use Rattle.plain_reads.proofs.Swapped.{lists_one_swapped}
use Rattle.plain_reads.proofs.past_map.users_among.Goals as goal

pub returns : goal.returns
returns c =
    let E = c.args.elements.now in
    let ks = c.args.among.now in
    let test : Key → Bool = λ k. is_last_shown E k && list_any (λ x. lists_key (refs_of E k) x) ks in
    filter_same _ test _ (λ x b f2 h. search rules) _ _ c.retain.ensures.filtered
    ∙ ap (filter test) c.in_ok-found.ensures
    ∙ passing_alike test (λ k. is_last_shown E k && lists_one E ks k) (λ k. ap (λ (b : Bool). is_last_shown E k && b) (lists_one_swapped E ks k)) (keys_of E c.args.kind)
