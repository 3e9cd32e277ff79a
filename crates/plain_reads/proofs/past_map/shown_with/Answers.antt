use Rattle.std.proofs.Common.{◌≡◌, ◌&&◌, ◌||◌, List, ◌++◌, map, ap, ◌∙◌}
use Rattle.std.specs.Prelude.{filter}
use Rattle.osm_base.specs.Place.{Area}
use Rattle.osm_base.specs.declared.keys.Key.{Key}
use Rattle.osm_base.specs.declared.keys.Kind.TheVariants.{Node, Way, Relation}
use Rattle.osm_element.specs.declared.elements.Elements.{Elements}
use Rattle.osm_model.specs.Past.{is_last_shown}
use Rattle.osm_model.specs.PastMap.{is_in, is_listed_by, keys_of, nodes_near, users_among, ways_over}
use Rattle.osm_model.specs.Reads.{current_shown}
use Rattle.plain_reads.proofs.OnMap.{on_map}
use Rattle.plain_reads.proofs.past_map.shown_with.Goals as goal

pub returns : goal.returns
returns c =
    let E : Elements = c.args.elements.now in
    let a : Area = c.args.within.now in
    let nodes : List Key = c.in_ok-found.found.items in
    let ways : List Key = c.in_ok-ways.ways.items in
    let first : List Key = c.in_ok-first.first.items in
    let more : List Key = c.in_ok-more.more.items in
    let used : List Key = c.extend_from_slice.new.self.items in
    let near : List Key = c.extend_from_slice-2.new.self.items in
    let ways_are : ways ≡ ways_over E a = c.in_ok-ways.ensures ∙ ap (users_among E Way) c.requires in
    let nodes_are : nodes ≡ nodes_near E a
    = c.in_ok-found.ensures
    ∙ ap (λ (l : List Key). filter (λ k. is_last_shown E k && (is_in E a k || is_listed_by E l k)) (keys_of E Node)) (c.as_slice.ensures.value ∙ ways_are) in
    let used_is : used ≡ nodes ++ ways = c.in_ok-extend_from_slice.ensures.items ∙ ap (λ (l : List Key). nodes ++ l) c.as_slice-2.ensures.value in
    let near_is : near ≡ (nodes ++ ways) ++ first
    = c.in_ok-extend_from_slice-2.ensures.items ∙ ap (λ (l : List Key). used ++ l) c.as_slice-5.ensures.value ∙ ap (λ (l : List Key). l ++ first) used_is in
    c.in_ok-shown.ensures
    ∙ ap (map (current_shown E))
    (c.as_slice-7.ensures.value
    ∙ c.given_keys_once-rising.ensures
    ∙ on_map E a nodes ways first more c.extend_from_slice-3.new.self.items nodes_are ways_are
    (c.in_ok-first.ensures ∙ ap (users_among E Relation) (c.as_slice-3.ensures.value ∙ used_is))
    (c.in_ok-more.ensures ∙ ap (users_among E Relation) c.as_slice-4.ensures.value)
    (c.in_ok-extend_from_slice-3.ensures.items ∙ ap (λ (l : List Key). near ++ l) c.as_slice-6.ensures.value ∙ ap (λ (l : List Key). l ++ more) near_is))
