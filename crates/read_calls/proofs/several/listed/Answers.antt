use Rattle.std.proofs.Common.{◌≡◌, ℕ, List, length, ap, ◌∙◌, map, rules}
use Rattle.osm_element.specs.Elements.{key, histories}
use Rattle.osm_model.specs.Reads.{current_shown}
use Rattle.rising_lists.specs.Ids.{lists_id}
use Rattle.read_calls.proofs.Known.{all_given}
use Rattle.read_calls.proofs.several.listed.Goals as goal

pub returns : goal.returns
returns c =
    let E = c.args.store.now.elements in
    let copied : c.in_ok-to_vec.field-0.items ≡ c.args.ids.now = search rules in
    c.in_ok-shown.ensures
    ∙ ap (λ (ids : List ℕ). map (λ id. current_shown E (key c.args.kind id)) ids)
    (c.as_slice.ensures.value
    ∙ c.rising_ids_are_told.ensures.passing (length (histories E c.args.kind)) (lists_id c.args.ids.now) c.sorted_once-rising.result.items
    (all_given E c.args.kind c.args.ids.now c.requires)
    c.sorted_once-rising.ensures.rising
    (λ id. c.sorted_once-rising.ensures.same id ∙ ap (λ (l : List ℕ). lists_id l id) copied))
