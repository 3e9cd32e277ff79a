-- What a map call selects, step by step.
use Rattle.std.proofs.Common.{◌≡◌, ℕ, Bool, ◌||◌, List, length, ap, ◌∙◌}
use Rattle.std.specs.List.{list_any}
use Rattle.osm_base.specs.Place.{Area}
use Rattle.osm_base.specs.declared.keys.Kind.TheVariants.{Node, Way, Relation}
use Rattle.osm_element.specs.Elements.{key}
use Rattle.osm_element.specs.declared.elements.Elements.{Elements}
use Rattle.osm_change.specs.declared.reads.Selection.{Selection}
use Rattle.osm_model.specs.Selection.{lists, is_inside, nodes_within, ways_met, nodes_met, lists_met, first_relations, relations_met, selection}
use Rattle.rising_lists.specs.Ids.{lists_id}
use Rattle.plain_reads.specs.Met.{ways_listing, nodes_with_listed, relations_listing, relations_with_listing}
use Rattle.plain_reads.proofs.Alike.{ids_alike}
use Rattle.plain_reads.proofs.Once.{lists-passing}

nodes-are : (E : Elements) (a : Area) → nodes_with_listed E (nodes_within E a) (ways_met E a) ≡ nodes_met E a
nodes-are E a =
    ids_alike (length E.nodes)
    (λ n. lists_id (nodes_within E a) n || list_any (λ w. lists E (key Way w) (key Node n)) (ways_met E a))
    (λ n. is_inside E a n || list_any (λ w. lists E (key Way w) (key Node n)) (ways_met E a))
    (λ n some within. ap (λ (b : Bool). b || list_any (λ w. lists E (key Way w) (key Node n)) (ways_met E a)) (lists-passing (length E.nodes) (is_inside E a) n some within))

relations-are : (E : Elements) (a : Area) → relations_with_listing E (first_relations E a) ≡ relations_met E a
relations-are E a =
    ids_alike (length E.relations)
    (λ r. lists_id (first_relations E a) r || list_any (λ q. lists E (key Relation r) (key Relation q)) (first_relations E a))
    (λ r. lists_met E a r || list_any (λ q. lists E (key Relation r) (key Relation q)) (first_relations E a))
    (λ r some within. ap (λ (b : Bool). b || list_any (λ q. lists E (key Relation r) (key Relation q)) (first_relations E a)) (lists-passing (length E.relations) (lists_met E a) r some within))

of_three : List ℕ → List ℕ → List ℕ → Selection
of_three nodes ways relations = record { nodes = nodes; ways = ways; relations = relations }

pub selection-is :
    (E : Elements) (a : Area) (base ways nodes first relations : List ℕ)
    → base ≡ nodes_within E a
    → ways ≡ ways_listing E base
    → nodes ≡ nodes_with_listed E base ways
    → first ≡ relations_listing E nodes ways
    → relations ≡ relations_with_listing E first
    → record { nodes = nodes; ways = ways; relations = relations } ≡ selection E a
unfolding of_three
selection-is E a base ways nodes first relations base_is ways_is nodes_is first_is relations_is =
    let ways_all : ways ≡ ways_met E a = ways_is ∙ ap (ways_listing E) base_is in
    let nodes_all : nodes ≡ nodes_met E a
    = nodes_is
    ∙ ap (λ (l : List ℕ). nodes_with_listed E l ways) base_is
    ∙ ap (nodes_with_listed E (nodes_within E a)) ways_all
    ∙ nodes-are E a in
    let first_all : first ≡ first_relations E a
    = first_is ∙ ap (λ (l : List ℕ). relations_listing E l ways) nodes_all ∙ ap (relations_listing E (nodes_met E a)) ways_all in
    let relations_all : relations ≡ relations_met E a = relations_is ∙ ap (relations_with_listing E) first_all ∙ relations-are E a in
    ap (λ (l : List ℕ). of_three l ways relations) nodes_all
    ∙ ap (λ (l : List ℕ). of_three (nodes_met E a) l relations) ways_all
    ∙ ap (λ (l : List ℕ). of_three (nodes_met E a) (ways_met E a) l) relations_all
