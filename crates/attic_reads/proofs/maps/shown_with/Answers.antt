use Rattle.std.proofs.Common.{◌≡◌, ◌&&◌, ◌||◌, ◌++◌, List, map, refl, sym, ap, ◌∙◌, subst}
use Rattle.std.specs.Prelude.{filter}
use Rattle.std.specs.List.{flat_map}
use Rattle.osm_base.specs.Key.{kind_eq, lists_key}
use Rattle.osm_base.specs.Place.{Area}
use Rattle.osm_base.specs.declared.keys.Key.{Key}
use Rattle.osm_base.specs.declared.keys.Kind.TheVariants.{Node, Way, Relation}
use Rattle.osm_base.proofs.KeyLists.{lists-append}
use Rattle.osm_element.specs.Elements.{keys, refs_of}
use Rattle.osm_element.specs.declared.elements.Elements.{Elements}
use Rattle.osm_model.specs.Past.{elements_by, is_last_shown}
use Rattle.osm_model.specs.PastMap.{is_on_map, nodes_in, users_among}
use Rattle.osm_model.specs.Reads.{current_shown}
use Rattle.osm_world.specs.World.{state_of}
use Rattle.attic_reads.proofs.OnMap.{IsFound, found-are}
use Rattle.attic_reads.proofs.maps.shown_with.Goals as goal

pub returns : goal.returns
returns c =
    let E : Elements = c.ordered-store.result.now.elements in
    let F : Elements = elements_by c.args.at E in
    let G : Elements = elements_by c.args.at (state_of c.args.world.now).elements in
    let same : E ≡ (state_of c.args.world.now).elements = c.ordered-store.ensures.same in
    let a : Area = c.args.within.now in
    let base : List Key = c.args.base.items in
    let ways : List Key = c.in_ok-ways.ways.items in
    let listed : List Key = c.in_ok-listed.listed.items in
    let candidates : List Key = c.in_ok-candidates.candidates.items in
    let nodes : List Key = c.in_ok-nodes.nodes.items in
    let used : List Key = c.in_ok-used.used.items in
    let first : List Key = c.in_ok-first.first.items in
    let more : List Key = c.in_ok-more.more.items in
    let near : List Key = c.in_ok-near.near.items in
    let all : List Key = c.in_ok-all.all.items in
    let B : Elements → Type 0 = λ X. base ≡ nodes_in (elements_by c.args.at X) a in
    let W : Elements → Type 0 = λ X. ways ≡ users_among (elements_by c.args.at X) Way base in
    let R : Elements → Type 0 = λ X. first ≡ users_among (elements_by c.args.at X) Relation used in
    let M : Elements → Type 0 = λ X. more ≡ users_among (elements_by c.args.at X) Relation first in
    let is : IsFound F a base ways listed candidates nodes used first first more near all = record {
      inside_is = λ x. ap (λ (ks : List Key). lists_key ks x) (subst B (sym same) c.requires.base);
      ways_is = subst W (sym same) (c.in_ok-ways.ensures.found ∙ ap (users_among G Way) c.as_slice.ensures.value);
      listed_is = c.in_ok-listed.ensures ∙ ap (flat_map (refs_of F)) c.as_slice-2.ensures.value;
      candidates_is = λ x. c.in_ok-candidates.ensures.same x ∙ ap (λ (ks : List Key). lists_key base x || lists_key ks x) c.as_slice-3.ensures.value;
      nodes_is = c.in_ok-nodes.ensures ∙ ap (filter (λ k. kind_eq k.kind Node && is_last_shown F k)) c.as_slice-4.ensures.value;
      used_is = λ x. c.in_ok-used.ensures.same x ∙ ap (λ (ks : List Key). lists_key nodes x || lists_key ks x) c.as_slice-5.ensures.value;
      found_first_is = subst R (sym same) (c.in_ok-first.ensures.found ∙ ap (users_among G Relation) c.as_slice-6.ensures.value);
      first_is = λ x. refl;
      more_is = subst M (sym same) (c.in_ok-more.ensures.found ∙ ap (users_among G Relation) c.as_slice-7.ensures.value);
      near_is = λ x. ap (λ (ks : List Key). lists_key ks x) (c.in_ok-near.ensures ∙ ap (λ (ks : List Key). used ++ ks) c.as_slice-8.ensures.value) ∙ lists-append used first x;
      all_is = λ x. c.in_ok-all.ensures.same x ∙ ap (λ (ks : List Key). lists_key near x || lists_key ks x) c.as_slice-9.ensures.value;
      up = c.in_ok-all.ensures.rising;
    } in
    c.in_ok-found.ensures
    ∙ ap (λ (ks : List Key). map (current_shown F) (filter (is_last_shown F) ks)) c.as_slice-10.ensures.value
    ∙ ap (map (current_shown F)) (found-are F a base ways listed candidates nodes used first first more near all is)
    ∙ ap (λ (X : Elements). map (current_shown (elements_by c.args.at X)) (filter (is_on_map (elements_by c.args.at X) a) (keys (elements_by c.args.at X)))) same
