use Rattle.std.proofs.Common.{◌&&◌, List, sym, ap, ◌∙◌, subst}
use Rattle.std.specs.Prelude.{filter}
use Rattle.osm_base.specs.Key.{IsRising}
use Rattle.osm_base.specs.declared.keys.Key.{Key}
use Rattle.osm_base.proofs.KeyLists.{rising-filter}
use Rattle.osm_element.specs.declared.elements.Elements.{Elements}
use Rattle.osm_model.specs.Past.{elements_by, is_last_shown}
use Rattle.osm_model.specs.PastMap.{lists_one}
use Rattle.osm_world.specs.World.{state_of}
use Rattle.attic_reads.proofs.Near.{users-found}
use Rattle.attic_reads.proofs.walks.users_among.Goals as goal

pub returns-clause-rising : goal.returns-clause-rising
returns-clause-rising c =
    let P : List Key → Type 0 = λ ks. IsRising ks in
    subst P (sym c.in_ok-found.ensures) (rising-filter c.as_slice.result.now _ (subst P (sym c.as_slice.ensures.value) c.in_ok-near.ensures.rising))

pub returns-clause-found : goal.returns-clause-found
returns-clause-found c =
    let E : Elements = (state_of c.args.world.now).elements in
    c.in_ok-found.ensures
    ∙ ap (λ (F : Elements). filter (λ k. is_last_shown (elements_by c.args.at F) k && lists_one (elements_by c.args.at F) c.args.among.now k) c.as_slice.result.now) c.ordered.ensures.same
    ∙ ap (λ (ks : List Key). filter (λ k. is_last_shown (elements_by c.args.at E) k && lists_one (elements_by c.args.at E) c.args.among.now k) ks) c.as_slice.ensures.value
    ∙ users-found c.args.at E c.args.kind c.args.among.now c.in_ok-near.near.items c.in_ok-near.ensures.rising c.in_ok-near.ensures.each
