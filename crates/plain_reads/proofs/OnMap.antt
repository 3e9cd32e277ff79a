-- What a map call of an earlier stamp gathers.
use Rattle.std.proofs.Common.{◌≡◌, Bool, true, false, ◌||◌, List, ◌++◌, refl, ap, ◌∙◌}
use Rattle.std.specs.Prelude.{filter}
use Rattle.osm_base.specs.Key.{lists_key}
use Rattle.osm_base.specs.Place.{Area}
use Rattle.osm_base.specs.declared.keys.Key.{Key}
use Rattle.osm_base.proofs.KeyLists.{lists-append}
use Rattle.osm_base.specs.declared.keys.Kind.TheVariants.{Relation}
use Rattle.osm_element.specs.Elements.{keys}
use Rattle.osm_element.specs.declared.elements.Elements.{Elements}
use Rattle.osm_model.specs.PastMap.{first_relations, is_on_map, nodes_near, users_among, ways_over}
use Rattle.plain_reads.proofs.Passed.{passing_alike}

regrouped : (p q r s : Bool) → ((p || q) || r) || s ≡ p || (q || (r || s))
regrouped true q r s = refl
regrouped false true r s = refl
regrouped false false r s = refl

lists-four : (a b c d : List Key) (x : Key) → lists_key (((a ++ b) ++ c) ++ d) x ≡ lists_key a x || (lists_key b x || (lists_key c x || lists_key d x))
lists-four a b c d x =
    lists-append ((a ++ b) ++ c) d x
    ∙ ap (λ (t : Bool). t || lists_key d x) (lists-append (a ++ b) c x)
    ∙ ap (λ (t : Bool). (t || lists_key c x) || lists_key d x) (lists-append a b x)
    ∙ regrouped (lists_key a x) (lists_key b x) (lists_key c x) (lists_key d x)

-- one list after the other, as they were found
pub on_map :
    (E : Elements) (a : Area) (nodes ways first more found : List Key)
    → nodes ≡ nodes_near E a
    → ways ≡ ways_over E a
    → first ≡ users_among E Relation (nodes ++ ways)
    → more ≡ users_among E Relation first
    → found ≡ ((nodes ++ ways) ++ first) ++ more
    → filter (lists_key found) (keys E) ≡ filter (is_on_map E a) (keys E)
on_map E a nodes ways first more found nodes_are ways_are first_are more_are found_are =
    let first_all : first ≡ first_relations E a
    = first_are
    ∙ ap (λ (l : List Key). users_among E Relation (l ++ ways)) nodes_are
    ∙ ap (λ (l : List Key). users_among E Relation (nodes_near E a ++ l)) ways_are in
    let more_all : more ≡ users_among E Relation (first_relations E a) = more_are ∙ ap (users_among E Relation) first_all in
    passing_alike (lists_key found) (is_on_map E a) (λ x.
    ap (λ (l : List Key). lists_key l x) found_are
    ∙ lists-four nodes ways first more x
    ∙ ap (λ (l : List Key). lists_key l x || (lists_key ways x || (lists_key first x || lists_key more x))) nodes_are
    ∙ ap (λ (l : List Key). lists_key (nodes_near E a) x || (lists_key l x || (lists_key first x || lists_key more x))) ways_are
    ∙ ap (λ (l : List Key). lists_key (nodes_near E a) x || (lists_key (ways_over E a) x || (lists_key l x || lists_key more x))) first_all
    ∙ ap (λ (l : List Key). lists_key (nodes_near E a) x || (lists_key (ways_over E a) x || (lists_key (first_relations E a) x || lists_key l x))) more_all) (keys E)
