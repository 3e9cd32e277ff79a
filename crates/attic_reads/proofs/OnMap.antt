-- What the nodes of a box bring with them, by what the lists of keys have.
use Rattle.std.proofs.Common.{◌≡◌, Bool, true, false, ◌&&◌, ◌||◌, List, [], ◌∷◌, ◌++◌, refl, sym, ap, ◌∙◌}
use Rattle.std.specs.Prelude.{filter}
use Rattle.std.specs.List.{list_any, flat_map}
use Rattle.std.proofs.lemmas.List.Elements.{filter_agree}
use Rattle.osm_base.specs.Key.{kind_eq, lists_key, IsRising}
use Rattle.osm_base.specs.Place.{Area}
use Rattle.osm_base.specs.declared.keys.Key.{Key}
use Rattle.osm_base.specs.declared.keys.Kind.{Kind}
use Rattle.osm_base.specs.declared.keys.Kind.TheVariants.{Node, Way, Relation}
use Rattle.osm_base.proofs.KeyLists.{lists-append, lists-filter, rising-filter}
use Rattle.osm_element.specs.Elements.{keys, refs_of}
use Rattle.osm_element.specs.declared.elements.Elements.{Elements}
use Rattle.osm_element.proofs.Used.{filter-are}
use Rattle.osm_model.specs.Past.{is_last_shown}
use Rattle.osm_model.specs.PastMap.{keys_of, is_in, lists_one, is_listed_by, nodes_in, users_among, ways_over, nodes_near, first_relations, is_on_map}
use Rattle.osm_model.proofs.Gathered.{visible-listed}
use Rattle.attic_reads.proofs.Walked.{shown-visible, kind-listed}

any-agree : {X : Type 0} (p q : X → Bool) → ((x : X) → p x ≡ q x) → (xs : List X) → list_any p xs ≡ list_any q xs
any-agree p q same [] = refl
any-agree p q same (x ∷ xs) = ap (λ (b : Bool). b || list_any p xs) (same x) ∙ ap (λ (b : Bool). q x || b) (any-agree p q same xs)

-- users of lists that have the same keys
users-same : (E : Elements) (kind : Kind) (ks js : List Key) → ((x : Key) → lists_key ks x ≡ lists_key js x) → users_among E kind ks ≡ users_among E kind js
users-same E kind ks js same =
    filter_agree (λ k. is_last_shown E k && lists_one E ks k) (λ k. is_last_shown E k && lists_one E js k)
    (λ k. ap (λ (b : Bool). is_last_shown E k && b) (any-agree (λ x. lists_key ks x) (λ x. lists_key js x) same (refs_of E k)))
    (keys_of E kind)

lists-all : (E : Elements) (ws : List Key) (x : Key) → lists_key (flat_map (refs_of E) ws) x ≡ is_listed_by E ws x
lists-all E [] x = refl
lists-all E (w ∷ ws) x = lists-append (refs_of E w) (flat_map (refs_of E) ws) x ∙ ap (λ (b : Bool). lists_key (refs_of E w) x || b) (lists-all E ws x)

-- what was found, step by step
pub record IsFound (E : Elements) (a : Area) (inside ways listed candidates nodes used first found_first more near all : List Key) : Type 0 where
  pub inside_is : (x : Key) → lists_key inside x ≡ lists_key (nodes_in E a) x
  pub ways_is : ways ≡ users_among E Way inside
  pub listed_is : listed ≡ flat_map (refs_of E) ways
  pub candidates_is : (x : Key) → lists_key candidates x ≡ lists_key inside x || lists_key listed x
  pub nodes_is : nodes ≡ filter (λ k. kind_eq k.kind Node && is_last_shown E k) candidates
  pub used_is : (x : Key) → lists_key used x ≡ lists_key nodes x || lists_key ways x
  pub found_first_is : found_first ≡ users_among E Relation used
  pub first_is : (x : Key) → lists_key first x ≡ lists_key found_first x
  pub more_is : more ≡ users_among E Relation first
  pub near_is : (x : Key) → lists_key near x ≡ lists_key used x || lists_key first x
  pub all_is : (x : Key) → lists_key all x ≡ lists_key near x || lists_key more x
  pub up : IsRising all

module _ (E : Elements) (a : Area) (inside ways listed candidates nodes used first found_first more near all : List Key) (f : IsFound E a inside ways listed candidates nodes used first found_first more near all) where
  ways-are : ways ≡ ways_over E a
  ways-are = f.ways_is ∙ users-same E Way inside (nodes_in E a) f.inside_is

  -- given that it is shown: of the kind, in the area, listed
  table : (g s i l d : Bool) → (s ≡ true → g ≡ d) → ((g && (s && i)) || l) && (d && s) ≡ g && (s && (i || l))
  table g true i l true same = ap (λ (b : Bool). ((b && i) || l) && true) (same refl) ∙ and-true (i || l) ∙ ap (λ (b : Bool). b && (i || l)) (sym (same refl))
    where
      and-true : (b : Bool) → b && true ≡ b
      and-true true = refl
      and-true false = refl
  table g true i l false same = and-false ((g && i) || l) ∙ ap (λ (b : Bool). b && (i || l)) (sym (same refl))
    where
      and-false : (b : Bool) → b && false ≡ false
      and-false true = refl
      and-false false = refl
  table g false i l d same = and-none ((g && false) || l) d ∙ sym (and-false g)
    where
      and-false : (b : Bool) → b && false ≡ false
      and-false true = refl
      and-false false = refl

      and-none : (b d : Bool) → b && (d && false) ≡ false
      and-none true true = refl
      and-none true false = refl
      and-none false d = refl

  nodes-are : (x : Key) → lists_key nodes x ≡ lists_key (nodes_near E a) x
  nodes-are x =
      ap (λ (ks : List Key). lists_key ks x) f.nodes_is
      ∙ lists-filter candidates (λ k. kind_eq k.kind Node && is_last_shown E k) x
      ∙ ap (λ (b : Bool). b && (kind_eq x.kind Node && is_last_shown E x)) (f.candidates_is x)
      ∙ ap (λ (b : Bool). (b || lists_key listed x) && (kind_eq x.kind Node && is_last_shown E x)) (f.inside_is x ∙ lists-filter (keys_of E Node) (λ k. is_last_shown E k && is_in E a k) x)
      ∙ ap (λ (b : Bool). ((lists_key (keys_of E Node) x && (is_last_shown E x && is_in E a x)) || b) && (kind_eq x.kind Node && is_last_shown E x))
      (ap (λ (ks : List Key). lists_key ks x) f.listed_is ∙ lists-all E ways x ∙ ap (λ (ws : List Key). is_listed_by E ws x) ways-are)
      ∙ table (lists_key (keys_of E Node) x) (is_last_shown E x) (is_in E a x) (is_listed_by E (ways_over E a) x) (kind_eq x.kind Node) (kind-listed E Node x)
      ∙ sym (lists-filter (keys_of E Node) (λ k. is_last_shown E k && (is_in E a k || is_listed_by E (ways_over E a) k)) x)

  used-are : (x : Key) → lists_key used x ≡ lists_key (nodes_near E a ++ ways_over E a) x
  used-are x =
      f.used_is x
      ∙ ap (λ (b : Bool). b || lists_key ways x) (nodes-are x)
      ∙ ap (λ (ks : List Key). lists_key (nodes_near E a) x || lists_key ks x) ways-are
      ∙ sym (lists-append (nodes_near E a) (ways_over E a) x)

  first-are : (x : Key) → lists_key first x ≡ lists_key (first_relations E a) x
  first-are x = f.first_is x ∙ ap (λ (ks : List Key). lists_key ks x) (f.found_first_is ∙ users-same E Relation used (nodes_near E a ++ ways_over E a) used-are)

  more-are : more ≡ users_among E Relation (first_relations E a)
  more-are = f.more_is ∙ users-same E Relation first (first_relations E a) first-are

  grouped : (n w r s : Bool) → ((n || w) || r) || s ≡ n || (w || (r || s))
  grouped true w r s = refl
  grouped false true r s = refl
  grouped false false r s = refl

  all-are : (x : Key) → lists_key all x ≡ is_on_map E a x
  all-are x =
      f.all_is x
      ∙ ap (λ (b : Bool). b || lists_key more x) (f.near_is x)
      ∙ ap (λ (b : Bool). (b || lists_key first x) || lists_key more x) (used-are x ∙ lists-append (nodes_near E a) (ways_over E a) x)
      ∙ ap (λ (b : Bool). ((lists_key (nodes_near E a) x || lists_key (ways_over E a) x) || b) || lists_key more x) (first-are x)
      ∙ ap (λ (ks : List Key). ((lists_key (nodes_near E a) x || lists_key (ways_over E a) x) || lists_key (first_relations E a) x) || lists_key ks x) more-are
      ∙ grouped (lists_key (nodes_near E a) x) (lists_key (ways_over E a) x) (lists_key (first_relations E a) x) (lists_key (users_among E Relation (first_relations E a)) x)

  both : (p q : Bool) → p && q ≡ true → (p ≡ true) × (q ≡ true)
  both true q h = (refl, h)
  both false q h = cc

  either : (R : Type 0) (p q : Bool) → (p ≡ true → R) → (q ≡ true → R) → p || q ≡ true → R
  either R true q one other h = one refl
  either R false q one other h = other h

  -- those of a list that are shown
  filtered-shown : (q : Key → Bool) (ks : List Key) (x : Key) → lists_key (filter (λ k. is_last_shown E k && q k) ks) x ≡ true → is_last_shown E x ≡ true
  filtered-shown q ks x there =
      let passed = both (lists_key ks x) (is_last_shown E x && q x) (sym (lists-filter ks (λ k. is_last_shown E k && q k) x) ∙ there) in
      (both (is_last_shown E x) (q x) passed.1).0

  on_map-shown : (x : Key) → is_on_map E a x ≡ true → is_last_shown E x ≡ true
  on_map-shown x =
      let R : Type 0 = is_last_shown E x ≡ true in
      either R (lists_key (nodes_near E a) x) (lists_key (ways_over E a) x || (lists_key (first_relations E a) x || lists_key (users_among E Relation (first_relations E a)) x))
      (filtered-shown (λ k. is_in E a k || is_listed_by E (ways_over E a) k) (keys_of E Node) x)
      (either R (lists_key (ways_over E a) x) (lists_key (first_relations E a) x || lists_key (users_among E Relation (first_relations E a)) x)
      (filtered-shown (lists_one E (nodes_in E a)) (keys_of E Way) x)
      (either R (lists_key (first_relations E a) x) (lists_key (users_among E Relation (first_relations E a)) x)
      (filtered-shown (lists_one E (nodes_near E a ++ ways_over E a)) (keys_of E Relation) x)
      (filtered-shown (lists_one E (first_relations E a)) (keys_of E Relation) x)))

  pub found-are : filter (is_last_shown E) all ≡ filter (is_on_map E a) (keys E)
  found-are =
      filter-are E (is_on_map E a) (filter (is_last_shown E) all) (rising-filter all (is_last_shown E) f.up)
      (λ x. lists-filter all (is_last_shown E) x ∙ ap (λ (b : Bool). b && is_last_shown E x) (all-are x) ∙ among x (is_on_map E a x) refl)
    where
      and-false : (b : Bool) → b && false ≡ false
      and-false true = refl
      and-false false = refl

      among : (x : Key) (b : Bool) → is_on_map E a x ≡ b → b && is_last_shown E x ≡ lists_key (keys E) x && b
      among x true there =
          let shown : is_last_shown E x ≡ true = on_map-shown x there in
          shown ∙ sym (ap (λ (b : Bool). b && true) (visible-listed E x (shown-visible E x shown)))
      among x false there = sym (and-false (lists_key (keys E) x))
