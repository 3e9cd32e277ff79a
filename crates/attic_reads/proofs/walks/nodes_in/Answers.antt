use Rattle.std.proofs.Common.{◌&&◌, ℕ, List, map, sym, ap, ◌∙◌, subst}
use Rattle.std.specs.Prelude.{filter}
use Rattle.std.specs.List.Sorted.{IsStrictlyIncreasing}
use Rattle.osm_base.specs.Key.{IsRising}
use Rattle.osm_base.specs.declared.keys.Key.{Key}
use Rattle.osm_base.specs.declared.keys.Kind.TheVariants.{Node}
use Rattle.osm_base.proofs.KeyLists.{rising-filter}
use Rattle.osm_element.specs.Elements.{key}
use Rattle.osm_element.specs.declared.elements.Elements.{Elements}
use Rattle.osm_model.specs.Past.{elements_by, is_last_shown}
use Rattle.osm_model.specs.PastMap.{is_in}
use Rattle.osm_world.specs.World.{state_of}
use Rattle.attic_reads.proofs.Near.{nodes-found, near-rising}
use Rattle.attic_reads.proofs.walks.nodes_in.Goals as goal

pub returns-clause-rising : goal.returns-clause-rising
returns-clause-rising c =
    let P : List Key → Type 0 = λ ks. IsRising ks in
    let Q : List ℕ → Type 0 = λ ids. IsStrictlyIncreasing ids in
    subst P (sym c.in_ok-found.ensures)
    (rising-filter (map (key Node) c.as_slice.result.now) _ (near-rising c.as_slice.result.now (subst Q (sym c.as_slice.ensures.value) c.in_ok-near.ensures.rising)))

pub returns-clause-found : goal.returns-clause-found
returns-clause-found c =
    let E : Elements = (state_of c.args.world.now).elements in
    c.in_ok-found.ensures
    ∙ ap (λ (F : Elements). filter (λ k. is_last_shown (elements_by c.args.at F) k && is_in (elements_by c.args.at F) c.args.within.now k) (map (key Node) c.as_slice.result.now)) c.ordered.ensures.same
    ∙ ap (λ (ids : List ℕ). filter (λ k. is_last_shown (elements_by c.args.at E) k && is_in (elements_by c.args.at E) c.args.within.now k) (map (key Node) ids)) c.as_slice.ensures.value
    ∙ nodes-found c.boxes_touch_what_they_hold.ensures c.nodes_that_lay_there_are_placed.ensures c.args.at E c.grid.result.now c.args.within.now c.in_ok-near.near.items c.requires c.grid.ensures.ever c.in_ok-near.ensures.rising c.in_ok-near.ensures.all
