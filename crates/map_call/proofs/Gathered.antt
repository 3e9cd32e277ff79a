-- What a map call selects, by the users of elements.
use Rattle.std.proofs.Common.{◌≡◌, ℕ, ◌<◌, ◌≤◌, Bool, true, false, ◌&&◌, ◌||◌, ⊎_elim, List, [], ◌∷◌, length, refl, sym, ap, ◌∙◌, arith}
use Rattle.std.specs.Prelude.{not, ◌==◌, filter}
use Rattle.std.specs.List.{list_any}
use Rattle.std.specs.List.Sorted.{IsStrictlyIncreasing}
use Rattle.std.proofs.lemmas.Bool.{cases_Bool, or_cases}
use Rattle.std.proofs.lemmas.Bool.Decides.{nat_tests}
use Rattle.osm_base.specs.Place.{Area, area_holds}
use Rattle.osm_base.specs.Key.{key_eq, lists_key}
use Rattle.osm_base.specs.declared.keys.Kind.TheVariants.{Node, Way, Relation}
use Rattle.osm_base.specs.declared.keys.Key.{Key}
use Rattle.osm_element.specs.Elements.{key, users, IsConsistent}
use Rattle.osm_element.specs.declared.elements.Elements.{Elements}
use Rattle.osm_element.proofs.Used.{lists-users}
use Rattle.osm_change.specs.declared.reads.Selection.{Selection}
use Rattle.osm_model.specs.Selection.{lists, is_inside, nodes_within, ways_met, nodes_met, lists_met, first_relations, relations_met, selection}
use Rattle.rising_lists.specs.Ids.{lists_id, ids_to}
use Rattle.map_call.proofs.Any.{any_alike, any_shows, any_split}
use Rattle.map_call.proofs.Range.{IsGiven, given-lists, given-visible, given-position}

-- the laws of lists in rising order that are used here
pub record AreTold : Type 0 where
  pub passing : (n : ℕ) (p : ℕ → Bool) (ids : List ℕ) → ((id : ℕ) → p id ≡ true → (0 < id) × (id ≤ n)) → IsStrictlyIncreasing ids → ((id : ℕ) → lists_id ids id ≡ p id) → ids ≡ filter p (ids_to n)
  pub listed : (n : ℕ) (p : ℕ → Bool) → ((id : ℕ) → p id ≡ true → (0 < id) × (id ≤ n)) → (id : ℕ) → lists_id (filter p (ids_to n)) id ≡ p id

and-true : (b : Bool) → b && true ≡ b
and-true true = refl
and-true false = refl

-- an element of another kind is not the one that it lists
lists_other : (E : Elements) (a b : Key) → key_eq a b ≡ false → lists_key (users E b) a ≡ lists E a b
lists_other E a b other =
    lists-users E a b ∙ ap (λ (e : Bool). lists E a b && not e) other ∙ and-true (lists E a b)

listed_by : (E : Elements) (a : Key) (f : ℕ → Key) → ((n : ℕ) → key_eq a (f n) ≡ false) → (ns : List ℕ) → list_any (λ n. lists_key (users E (f n)) a) ns ≡ list_any (λ n. lists E a (f n)) ns
listed_by E a f other ns = any_alike (λ n. lists_key (users E (f n)) a) (λ n. lists E a (f n)) (λ n. lists_other E a (f n) (other n)) ns

given-any : (E : Elements) (a : Key) (f : ℕ → Key) (ns : List ℕ) → list_any (λ n. lists E a (f n)) ns ≡ true → IsGiven E a
given-any E a f ns h = any_shows (λ n. lists E a (f n)) ns (λ n _ t. given-lists E a (f n) t) h

given-met : (E : Elements) (a : Area) (r : ℕ) → lists_met E a r ≡ true → IsGiven E (key Relation r)
given-met E a r h =
    ⊎_elim
    (λ nodes. given-any E (key Relation r) (key Node) (nodes_met E a) nodes)
    (λ ways. given-any E (key Relation r) (key Way) (ways_met E a) ways)
    (or_cases (list_any (λ n. lists E (key Relation r) (key Node n)) (nodes_met E a)) (list_any (λ w. lists E (key Relation r) (key Way w)) (ways_met E a)) h)

ways-are :
    (law : AreTold) (E : Elements) (a : Area) (base ways : List ℕ)
    → base ≡ nodes_within E a
    → IsStrictlyIncreasing ways
    → ((w : ℕ) → lists_id ways w ≡ list_any (λ n. lists_key (users E (key Node n)) (key Way w)) base)
    → ways ≡ ways_met E a
ways-are law E a base ways is up same =
    law.passing (length E.ways) (λ w. list_any (λ n. lists E (key Way w) (key Node n)) (nodes_within E a)) ways
    (λ w. given-any E (key Way w) (key Node) (nodes_within E a))
    up
    (λ w. same w
    ∙ listed_by E (key Way w) (key Node) (λ n. refl) base
    ∙ ap (list_any (λ n. lists E (key Way w) (key Node n))) is)

nodes-are :
    (law : AreTold) (E : Elements) (a : Area) (base ways nodes : List ℕ)
    → IsConsistent E
    → base ≡ nodes_within E a
    → ways ≡ ways_met E a
    → IsStrictlyIncreasing nodes
    → ((n : ℕ) → lists_id nodes n ≡ lists_id base n || list_any (λ w. lists E (key Way w) (key Node n)) ways)
    → nodes ≡ nodes_met E a
nodes-are law E a base ways nodes whole base_is ways_is up same =
    law.passing (length E.nodes) p nodes known up
    (λ n. same n
    ∙ ap (λ (l : List ℕ). lists_id l n || list_any (λ w. lists E (key Way w) (key Node n)) ways) base_is
    ∙ ap (λ (b : Bool). b || list_any (λ w. lists E (key Way w) (key Node n)) ways) (base-lists n)
    ∙ ap (λ (l : List ℕ). is_inside E a n || list_any (λ w. lists E (key Way w) (key Node n)) l) ways_is)
  where
    p : ℕ → Bool
    p n = is_inside E a n || list_any (λ w. lists E (key Way w) (key Node n)) (ways_met E a)

    known : (n : ℕ) → p n ≡ true → IsGiven E (key Node n)
    known n h =
        ⊎_elim
        (λ inside. given-position E (key Node n) (area_holds a) inside)
        (λ listed. any_shows (λ w. lists E (key Way w) (key Node n)) (ways_met E a) (λ w _ t. given-visible E (key Node n) (whole.seen (key Way w) (key Node n) t)) listed)
        (or_cases (is_inside E a n) (list_any (λ w. lists E (key Way w) (key Node n)) (ways_met E a)) h)

    base-lists : (n : ℕ) → lists_id (nodes_within E a) n ≡ is_inside E a n
    base-lists n = law.listed (length E.nodes) (is_inside E a) (λ id inside. given-position E (key Node id) (area_holds a) inside) n

first-are :
    (law : AreTold) (E : Elements) (a : Area) (nodes ways first : List ℕ)
    → nodes ≡ nodes_met E a
    → ways ≡ ways_met E a
    → IsStrictlyIncreasing first
    → ((r : ℕ) → lists_id first r ≡ list_any (λ n. lists_key (users E (key Node n)) (key Relation r)) nodes || list_any (λ w. lists_key (users E (key Way w)) (key Relation r)) ways)
    → first ≡ first_relations E a
first-are law E a nodes ways first nodes_are ways_are up same =
    law.passing (length E.relations) (lists_met E a) first (given-met E a) up
    (λ r. same r
    ∙ ap (λ (b : Bool). b || list_any (λ w. lists_key (users E (key Way w)) (key Relation r)) ways)
    (listed_by E (key Relation r) (key Node) (λ n. refl) nodes ∙ ap (list_any (λ n. lists E (key Relation r) (key Node n))) nodes_are)
    ∙ ap (λ (b : Bool). list_any (λ n. lists E (key Relation r) (key Node n)) (nodes_met E a) || b)
    (listed_by E (key Relation r) (key Way) (λ w. refl) ways ∙ ap (list_any (λ w. lists E (key Relation r) (key Way w))) ways_are))

or_neither : (a b : Bool) → (a || b) ≡ false → (a ≡ false) × (b ≡ false)
or_neither true b e = cc
or_neither false b e = (refl, e)

apart_ids : (q r : ℕ) → (q == r) ≡ false → key_eq (key Relation r) (key Relation q) ≡ false
apart_ids q r e = grind (arith, nat_tests)

-- whether a relation is one of the first, or lists one of them: a relation that lists itself is found either way
same_met : (E : Elements) (r : ℕ) (qs : List ℕ) → lists_id qs r || list_any (λ q. lists_key (users E (key Relation q)) (key Relation r)) qs ≡ lists_id qs r || list_any (λ q. lists E (key Relation r) (key Relation q)) qs
same_met E r qs =
    ⊎_elim
    (λ t. ap (λ (b : Bool). b || list_any (λ q. lists_key (users E (key Relation q)) (key Relation r)) qs) t ∙ sym (ap (λ (b : Bool). b || list_any (λ q. lists E (key Relation r) (key Relation q)) qs) t))
    (λ f. ap (λ (b : Bool). lists_id qs r || b) (apart qs f))
    (cases_Bool (lists_id qs r))
  where
    apart : (qs : List ℕ) → lists_id qs r ≡ false → list_any (λ q. lists_key (users E (key Relation q)) (key Relation r)) qs ≡ list_any (λ q. lists E (key Relation r) (key Relation q)) qs
    apart [] f = refl
    apart (q ∷ qs) f =
        let both = or_neither (q == r) (lists_id qs r) f in
        let other : key_eq (key Relation r) (key Relation q) ≡ false = apart_ids q r both.0 in
        ap (λ (b : Bool). b || list_any (λ q. lists_key (users E (key Relation q)) (key Relation r)) qs) (lists_other E (key Relation r) (key Relation q) other)
        ∙ ap (λ (b : Bool). lists E (key Relation r) (key Relation q) || b) (apart qs both.1)

relations-are :
    (law : AreTold) (E : Elements) (a : Area) (first relations : List ℕ)
    → first ≡ first_relations E a
    → IsStrictlyIncreasing relations
    → ((r : ℕ) → lists_id relations r ≡ lists_id first r || list_any (λ q. lists_key (users E (key Relation q)) (key Relation r)) first)
    → relations ≡ relations_met E a
relations-are law E a first relations is up same =
    law.passing (length E.relations) p relations known up
    (λ r. same r
    ∙ same_met E r first
    ∙ ap (λ (qs : List ℕ). lists_id qs r || list_any (λ q. lists E (key Relation r) (key Relation q)) qs) is
    ∙ ap (λ (b : Bool). b || list_any (λ q. lists E (key Relation r) (key Relation q)) (first_relations E a)) (law.listed (length E.relations) (lists_met E a) (given-met E a) r))
  where
    p : ℕ → Bool
    p r = lists_met E a r || list_any (λ q. lists E (key Relation r) (key Relation q)) (first_relations E a)

    known : (r : ℕ) → p r ≡ true → IsGiven E (key Relation r)
    known r h =
        ⊎_elim
        (λ met. given-met E a r met)
        (λ listed. given-any E (key Relation r) (key Relation) (first_relations E a) listed)
        (or_cases (lists_met E a r) (list_any (λ q. lists E (key Relation r) (key Relation q)) (first_relations E a)) h)

abbrev pub of_three : List ℕ → List ℕ → List ℕ → Selection
of_three nodes ways relations = record { nodes = nodes; ways = ways; relations = relations }

-- the nodes in the area, the ways that use one, what these list, all of these nodes, and the
-- relations in two steps: the relations that use a node in the area come first, in any order
pub selection-is :
    (law : AreTold) (E : Elements) (a : Area) (base ways listed nodes found first relations : List ℕ)
    → IsConsistent E
    → base ≡ nodes_within E a
    → IsStrictlyIncreasing ways
    → ((w : ℕ) → lists_id ways w ≡ list_any (λ n. lists_key (users E (key Node n)) (key Way w)) base)
    → ((n : ℕ) → lists_id listed n ≡ list_any (λ w. lists E (key Way w) (key Node n)) ways)
    → IsStrictlyIncreasing nodes
    → ((n : ℕ) → lists_id nodes n ≡ lists_id base n || lists_id listed n)
    → ((r : ℕ) → lists_id found r ≡ list_any (λ n. lists_key (users E (key Node n)) (key Relation r)) base)
    → IsStrictlyIncreasing first
    → ((r : ℕ) → lists_id first r ≡ (lists_id found r || list_any (λ n. not (lists_id base n) && lists_key (users E (key Node n)) (key Relation r)) listed) || list_any (λ w. lists_key (users E (key Way w)) (key Relation r)) ways)
    → IsStrictlyIncreasing relations
    → ((r : ℕ) → lists_id relations r ≡ lists_id first r || list_any (λ q. lists_key (users E (key Relation q)) (key Relation r)) first)
    → of_three nodes ways relations ≡ selection E a
selection-is law E a base ways listed nodes found first relations whole base_is ways_up ways_same listed_same nodes_up nodes_same found_same first_up first_same relations_up relations_same =
    let ways_is : ways ≡ ways_met E a = ways-are law E a base ways base_is ways_up ways_same in
    let nodes_is : nodes ≡ nodes_met E a
    = nodes-are law E a base ways nodes whole base_is ways_is nodes_up (λ n. nodes_same n ∙ ap (λ (b : Bool). lists_id base n || b) (listed_same n)) in
    let first_is : first ≡ first_relations E a
    = first-are law E a nodes ways first nodes_is ways_is first_up
    (λ r. first_same r
    ∙ ap (λ (b : Bool). (b || list_any (λ n. not (lists_id base n) && lists_key (users E (key Node n)) (key Relation r)) listed) || list_any (λ w. lists_key (users E (key Way w)) (key Relation r)) ways) (found_same r)
    ∙ ap (λ (b : Bool). b || list_any (λ w. lists_key (users E (key Way w)) (key Relation r)) ways)
    (any_split (λ n. lists_key (users E (key Node n)) (key Relation r)) base listed nodes nodes_same)) in
    let relations_is : relations ≡ relations_met E a = relations-are law E a first relations first_is relations_up relations_same in
    ap (λ (l : List ℕ). of_three l ways relations) nodes_is
    ∙ ap (λ (l : List ℕ). of_three (nodes_met E a) l relations) ways_is
    ∙ ap (λ (l : List ℕ). of_three (nodes_met E a) (ways_met E a) l) relations_is
