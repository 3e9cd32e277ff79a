use Rattle.std.proofs.Common.{◌≤◌, ◌++◌, ◌∷◌, [], List, length, rules, ap, ◌∙◌}
use Rattle.std.specs.List.{flat_map}
use Rattle.std.proofs.lemmas.List.{take_all}
use Rattle.osm_base.specs.Key.{lists_key}
use Rattle.osm_base.specs.declared.keys.Key.{Key}
use Rattle.osm_element.specs.Elements.{refs_of}
use Rattle.osm_element.specs.declared.elements.Elements.{Elements}
use Rattle.osm_model.specs.Past.{elements_by, shown_way_refs}
use Rattle.osm_model.proofs.Gathered.{gathered-unmarked}
use Rattle.attic_reads.proofs.in_full.gathered.Goals as goal

pub returns : goal.returns
returns c = λ x.
    let E : Elements = elements_by c.args.at c.args.store.now.elements in
    let k = c.args.key in
    let all : length (refs_of E k) ≤ c.loop-place.place = search rules in
    ap (λ (ks : List Key). lists_key ks x)
    (c.loop-place.invariant ∙ ap (λ (ks : List Key). (refs_of E k ++ k ∷ []) ++ flat_map (shown_way_refs E) ks) (take_all c.loop-place.place (refs_of E k) all))
    ∙ gathered-unmarked E k x
