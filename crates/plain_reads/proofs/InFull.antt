-- What is gathered for a read in full.
use Rattle.std.proofs.Common.{◌≡◌, Bool, true, false, ◌&&◌, ◌||◌, List, [], ◌∷◌, ◌++◌, refl, ap, ◌∙◌}
use Rattle.std.specs.Prelude.{if◌then◌else◌}
use Rattle.std.specs.List.{list_any, flat_map}
use Rattle.osm_base.specs.Key.{key_eq, lists_key}
use Rattle.osm_base.specs.declared.keys.Key.{Key}
use Rattle.osm_base.proofs.KeyLists.{lists-append, lists-push}
use Rattle.osm_base.proofs.KeyOrder.{key_eq-sym}
use Rattle.osm_element.specs.Elements.{refs_of}
use Rattle.osm_element.specs.declared.elements.Elements.{Elements}
use Rattle.osm_model.specs.Past.{is_last_shown, shown_way_refs, in_full_unmarked}
use Rattle.osm_model.specs.Reads.{in_full, is_way}
use Rattle.plain_reads.specs.Read.{way_refs}

lists-way_refs : (E : Elements) (w x : Key) → lists_key (way_refs E w) x ≡ is_way w && lists_key (refs_of E w) x
lists-way_refs E w x = by_kind (is_way w)
  where
    by_kind : (b : Bool) → lists_key (if b then refs_of E w else []) x ≡ b && lists_key (refs_of E w) x
    by_kind true = refl
    by_kind false = refl

lists-shown_way_refs : (E : Elements) (w x : Key) → lists_key (shown_way_refs E w) x ≡ is_last_shown E w && (is_way w && lists_key (refs_of E w) x)
lists-shown_way_refs E w x = by_shown (is_last_shown E w)
  where
    by_shown : (b : Bool) → lists_key (if b then way_refs E w else []) x ≡ b && (is_way w && lists_key (refs_of E w) x)
    by_shown true = lists-way_refs E w x
    by_shown false = refl

-- what each of some keys gives lists
lists-each :
    (given : Key → List Key) (test : Key → Bool) (ws : List Key) (x : Key)
    → ((w : Key) → lists_key (given w) x ≡ test w)
    → lists_key (flat_map given ws) x ≡ list_any test ws
lists-each given test [] x same = refl
lists-each given test (w ∷ ws) x same =
    lists-append (given w) (flat_map given ws) x
    ∙ ap (λ (b : Bool). b || lists_key (flat_map given ws) x) (same w)
    ∙ ap (λ (b : Bool). test w || b) (lists-each given test ws x same)

gathered :
    (given : Key → List Key) (test : Key → Bool) (ks : List Key) (k x : Key)
    → ((w : Key) → lists_key (given w) x ≡ test w)
    → lists_key ((ks ++ k ∷ []) ++ flat_map given ks) x ≡ key_eq x k || (lists_key ks x || list_any test ks)
gathered given test ks k x same =
    lists-append (ks ++ k ∷ []) (flat_map given ks) x
    ∙ ap (λ (b : Bool). b || lists_key (flat_map given ks) x) (lists-push ks k x)
    ∙ ap (λ (b : Bool). (lists_key ks x || key_eq k x) || b) (lists-each given test ks x same)
    ∙ swap (lists_key ks x) (key_eq k x) (list_any test ks)
    ∙ ap (λ (b : Bool). b || (lists_key ks x || list_any test ks)) (key_eq-sym k x)
  where
    swap : (p q r : Bool) → (p || q) || r ≡ q || (p || r)
    swap true true r = refl
    swap true false r = refl
    swap false q r = refl

pub gathered-full : (E : Elements) (k x : Key) → lists_key ((refs_of E k ++ k ∷ []) ++ flat_map (way_refs E) (refs_of E k)) x ≡ in_full E k x
gathered-full E k x =
    gathered (way_refs E) (λ w. is_way w && lists_key (refs_of E w) x) (refs_of E k) k x (λ w. lists-way_refs E w x)

pub gathered-unmarked :
    (E : Elements) (k x : Key)
    → lists_key ((refs_of E k ++ k ∷ []) ++ flat_map (shown_way_refs E) (refs_of E k)) x ≡ in_full_unmarked E k x
gathered-unmarked E k x =
    gathered (shown_way_refs E) (λ w. is_last_shown E w && (is_way w && lists_key (refs_of E w) x)) (refs_of E k) k x (λ w. lists-shown_way_refs E w x)
