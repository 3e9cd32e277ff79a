use Rattle.std.proofs.Common.{◌∙◌, ap, ℕ, List, ◌&&◌, ◌||◌}
use Rattle.std.specs.Prelude.{not}
use Rattle.std.specs.List.{list_any}
use Rattle.osm_base.specs.Key.{lists_key}
use Rattle.osm_base.specs.declared.keys.Kind.TheVariants.{Node, Way, Relation}
use Rattle.osm_element.specs.Elements.{key, users}
use Rattle.osm_model.specs.Selection.{lists}
use Rattle.osm_world.specs.World.{state_of}
use Rattle.rising_lists.specs.Ids.{lists_id}
use Rattle.map_call.proofs.Gathered.{of_three, selection-is}
use Rattle.map_call.proofs.calls.select.Goals as goal

pub returns : goal.returns
returns c =
    let E = (state_of c.args.world.now).elements in
    let base = c.args.base.items in
    let used = λ (n r : ℕ). lists_key (users E (key Node n)) (key Relation r) in
    let ways_used = λ (w r : ℕ). lists_key (users E (key Way w)) (key Relation r) in
    ap (λ (l : List ℕ). of_three l c.of-2.result c.of-3.result) c.of.ensures
    ∙ ap (λ (l : List ℕ). of_three c.in_ok-nodes.nodes.items l c.of-3.result) c.of-2.ensures
    ∙ ap (of_three c.in_ok-nodes.nodes.items c.sorted_once-ways.result.items) c.of-3.ensures
    ∙ selection-is (record { passing = c.rising_ids_are_told.ensures.passing; listed = c.rising_ids_are_told.ensures.listed }) E c.args.within.now
    base c.sorted_once-ways.result.items c.in_ok-listed.listed.items c.in_ok-nodes.nodes.items c.in_ok-users.users.relations.items c.in_ok-first.first.items c.in_ok-relations.relations.items
    c.laws.ensures.consistent
    c.requires
    c.sorted_once-ways.ensures.rising
    (λ w. c.sorted_once-ways.ensures.same w ∙ c.in_ok-users.ensures.ways w ∙ ap (list_any (λ n. lists_key (users E (key Node n)) (key Way w))) c.as_slice.ensures.value)
    (λ n. c.in_ok-listed.ensures.listed n ∙ ap (list_any (λ w. lists E (key Way w) (key Node n))) c.as_slice-2.ensures.value)
    c.in_ok-nodes.ensures.rising
    (λ n. c.in_ok-nodes.ensures.same n ∙ ap (λ (l : List ℕ). lists_id base n || lists_id l n) c.as_slice-7.ensures.value)
    (λ r. c.in_ok-users.ensures.relations r ∙ ap (list_any (λ n. used n r)) c.as_slice.ensures.value)
    c.in_ok-first.ensures.rising
    (λ r. c.in_ok-first.ensures.same r
    ∙ ap (λ (l : List ℕ). (lists_id c.in_ok-users.users.relations.items r || list_any (λ n. not (lists_id l n) && used n r) c.as_slice-4.result.now) || list_any (λ w. ways_used w r) c.as_slice-5.result.now) c.as_slice-3.ensures.value
    ∙ ap (λ (l : List ℕ). (lists_id c.in_ok-users.users.relations.items r || list_any (λ n. not (lists_id base n) && used n r) l) || list_any (λ w. ways_used w r) c.as_slice-5.result.now) c.as_slice-4.ensures.value
    ∙ ap (λ (l : List ℕ). (lists_id c.in_ok-users.users.relations.items r || list_any (λ n. not (lists_id base n) && used n r) c.in_ok-listed.listed.items) || list_any (λ w. ways_used w r) l) c.as_slice-5.ensures.value)
    c.in_ok-relations.ensures.rising
    (λ r. c.in_ok-relations.ensures.same r
    ∙ ap (λ (l : List ℕ). lists_id l r || list_any (λ q. lists_key (users E (key Relation q)) (key Relation r)) l) c.as_slice-6.ensures.value)
