-- What is gathered for a read in full, and that what is visible is among the keys.
use Rattle.std.proofs.Common.{◌≡◌, ◌-◌, ◌<◌, ◌≤◌, Bool, true, false, ◌&&◌, ◌||◌, ⊎_elim, List, [], ◌∷◌, ◌++◌, length, None, refl, sym, ap, ◌∙◌}
use Rattle.std.specs.Prelude.{◌==◌, if◌then◌else◌, slice_get, is_some, option_and_then}
use Rattle.std.specs.List.{list_any, flat_map}
use Rattle.std.proofs.lemmas.Bool.{false≢true, cases_Bool}
use Rattle.osm_base.specs.Key.{key_eq, lists_key}
use Rattle.osm_base.specs.declared.keys.Kind.{Kind}
use Rattle.osm_base.specs.declared.keys.Kind.TheVariants.{Node, Way, Relation}
use Rattle.osm_base.specs.declared.keys.Key.{Key}
use Rattle.osm_base.proofs.KeyLists.{lists-append, lists-push}
use Rattle.osm_base.proofs.KeyOrder.{key_eq-sym}
use Rattle.osm_element.specs.Elements.{keys_to, keys, histories, history, count, is_visible, refs_of}
use Rattle.osm_element.specs.declared.elements.Elements.{Elements}
use Rattle.osm_element.specs.Version.{Version}
use Rattle.osm_element.proofs.Later.{given-there}
use Rattle.osm_element.proofs.Used.{keys_to-has}
use Rattle.osm_model.specs.Past.{is_last_shown, shown_way_refs, in_full_unmarked}
use Rattle.osm_model.specs.Reads.{in_full, is_way, way_refs}

lists-way_refs : (E : Elements) (w x : Key) → lists_key (way_refs E w) x ≡ is_way w && lists_key (refs_of E w) x
lists-way_refs E w x = by_kind (is_way w)
  where
    by_kind : (b : Bool) → lists_key (if b then refs_of E w else []) x ≡ b && lists_key (refs_of E w) x
    by_kind true = refl
    by_kind false = refl

lists-shown_way_refs : (E : Elements) (w x : Key) → lists_key (shown_way_refs E w) x ≡ is_last_shown E w && (is_way w && lists_key (refs_of E w) x)
lists-shown_way_refs E w x = by_shown (is_last_shown E w)
  where
    by_shown : (b : Bool) → lists_key (if b then way_refs E w else []) x ≡ b && (is_way w && lists_key (refs_of E w) x)
    by_shown true = lists-way_refs E w x
    by_shown false = refl

-- what each of some keys gives lists
lists-each :
    (given : Key → List Key) (test : Key → Bool) (ws : List Key) (x : Key)
    → ((w : Key) → lists_key (given w) x ≡ test w)
    → lists_key (flat_map given ws) x ≡ list_any test ws
lists-each given test [] x same = refl
lists-each given test (w ∷ ws) x same =
    lists-append (given w) (flat_map given ws) x
    ∙ ap (λ (b : Bool). b || lists_key (flat_map given ws) x) (same w)
    ∙ ap (λ (b : Bool). test w || b) (lists-each given test ws x same)

gathered :
    (given : Key → List Key) (test : Key → Bool) (ks : List Key) (k x : Key)
    → ((w : Key) → lists_key (given w) x ≡ test w)
    → lists_key ((ks ++ k ∷ []) ++ flat_map given ks) x ≡ key_eq x k || (lists_key ks x || list_any test ks)
gathered given test ks k x same =
    lists-append (ks ++ k ∷ []) (flat_map given ks) x
    ∙ ap (λ (b : Bool). b || lists_key (flat_map given ks) x) (lists-push ks k x)
    ∙ ap (λ (b : Bool). (lists_key ks x || key_eq k x) || b) (lists-each given test ks x same)
    ∙ swap (lists_key ks x) (key_eq k x) (list_any test ks)
    ∙ ap (λ (b : Bool). b || (lists_key ks x || list_any test ks)) (key_eq-sym k x)
  where
    swap : (p q r : Bool) → (p || q) || r ≡ q || (p || r)
    swap true true r = refl
    swap true false r = refl
    swap false q r = refl

pub gathered-full : (E : Elements) (k x : Key) → lists_key ((refs_of E k ++ k ∷ []) ++ flat_map (way_refs E) (refs_of E k)) x ≡ in_full E k x
gathered-full E k x =
    gathered (way_refs E) (λ w. is_way w && lists_key (refs_of E w) x) (refs_of E k) k x (λ w. lists-way_refs E w x)

pub gathered-unmarked :
    (E : Elements) (k x : Key)
    → lists_key ((refs_of E k ++ k ∷ []) ++ flat_map (shown_way_refs E) (refs_of E k)) x ≡ in_full_unmarked E k x
gathered-unmarked E k x =
    gathered (shown_way_refs E) (λ w. is_last_shown E w && (is_way w && lists_key (refs_of E w) x)) (refs_of E k) k x (λ w. lists-shown_way_refs E w x)

-- a visible element has a version
visible-counts : (E : Elements) (x : Key) → is_visible E x ≡ true → (count E x == 0) ≡ false
visible-counts E x seen =
    ⊎_elim
    (λ none. absurd (false≢true (sym (ap (λ (b : Bool). is_some (option_and_then (λ (v : Version). v.content) (if b then None else slice_get (history E x) (count E x - 1)))) none) ∙ seen)))
    (λ some. some)
    (cases_Bool (count E x == 0))

or-true : (b : Bool) → b || true ≡ true
or-true true = refl
or-true false = refl

-- its id was given
pub visible-given : (E : Elements) (x : Key) → is_visible E x ≡ true → (0 < x.id) × (x.id ≤ length (histories E x.kind))
visible-given E x seen = given-there E x (visible-counts E x seen)

-- a visible element is among the keys
pub visible-listed : (E : Elements) (x : Key) → is_visible E x ≡ true → lists_key (keys E) x ≡ true
visible-listed E x seen =
    let given = given-there E x (visible-counts E x seen) in
    lists-append (keys_to Node (length E.nodes)) (keys_to Way (length E.ways) ++ keys_to Relation (length E.relations)) x
    ∙ ap (λ (b : Bool). lists_key (keys_to Node (length E.nodes)) x || b) (lists-append (keys_to Way (length E.ways)) (keys_to Relation (length E.relations)) x)
    ∙ among x.kind (keys_to-has x.kind (length (histories E x.kind)) x.id given.0 given.1)
  where
    among : (kind : Kind) → lists_key (keys_to kind (length (histories E kind))) x ≡ true → lists_key (keys_to Node (length E.nodes)) x || (lists_key (keys_to Way (length E.ways)) x || lists_key (keys_to Relation (length E.relations)) x) ≡ true
    among Node there = ap (λ (b : Bool). b || (lists_key (keys_to Way (length E.ways)) x || lists_key (keys_to Relation (length E.relations)) x)) there
    among Way there = ap (λ (b : Bool). lists_key (keys_to Node (length E.nodes)) x || (b || lists_key (keys_to Relation (length E.relations)) x)) there ∙ or-true (lists_key (keys_to Node (length E.nodes)) x)
    among Relation there =
        ap (λ (b : Bool). lists_key (keys_to Node (length E.nodes)) x || (lists_key (keys_to Way (length E.ways)) x || b)) there
        ∙ ap (λ (b : Bool). lists_key (keys_to Node (length E.nodes)) x || b) (or-true (lists_key (keys_to Way (length E.ways)) x))
        ∙ or-true (lists_key (keys_to Node (length E.nodes)) x)
