-- A box that is widened by the places of some elements.
use Rattle.std.proofs.Common.{◌≡◌, ℕ, ◌+◌, ◌<◌, List, [], ◌∷◌, ◌++◌, length, get_or, take, map, refl, ap, sym, ◌∙◌}
use Rattle.std.specs.Prelude.{Option, Some, None, filter_map, option_to_list}
use Rattle.std.proofs.lemmas.List.{map-append, take_more}
use Rattle.std.proofs.lemmas.List.Elements.{filter_map-append}
use Rattle.std.proofs.lemmas.List.Sums.{fold-append}
use Rattle.osm_base.specs.Place.{Area}
use Rattle.osm_base.specs.declared.keys.Key.{Key}
use Rattle.osm_element.specs.Elements.{content_of, position, position_in, refs, refs_in, refs_of}
use Rattle.osm_element.specs.declared.contents.Content.{Content}
use Rattle.osm_element.specs.declared.contents.Content.TheVariants.{Node, Way, Relation}
use Rattle.osm_element.specs.declared.elements.Elements.{Elements}
use Rattle.changeset_core.specs.Changeset.{new_position, touched_area, widen, widen_all, widen_by}

pub widen_by-append : (E : Elements) (a : Option Area) (ks ls : List Key) → widen_by E a (ks ++ ls) ≡ widen_by E (widen_by E a ks) ls
widen_by-append E a ks ls =
    ap (widen_all a) (filter_map-append (position E) ks ls)
    ∙ fold-append widen a (filter_map (position E) ks) (filter_map (position E) ls)

-- a step of a loop over what a content lists, at the element l
pub widen_by-more : {X : Type 0} (E : Elements) (a b c : Option Area) (f : X → Key) (xs : List X) (i : ℕ) (d : X) (l : Key) → i < length xs → l ≡ f (get_or xs i d) → b ≡ widen_by E a (map f (take i xs)) → c ≡ widen_by E b (l ∷ []) → c ≡ widen_by E a (map f (take (i + 1) xs))
widen_by-more E a b c f xs i d l within item before after =
    let parts : map f (take (i + 1) xs) ≡ map f (take i xs) ++ (f (get_or xs i d) ∷ []) = ap (map f) (take_more xs i d within) ∙ map-append f (take i xs) (get_or xs i d ∷ []) in
    let whole : widen_by E a (map f (take (i + 1) xs)) ≡ widen_by E (widen_by E a (map f (take i xs))) (f (get_or xs i d) ∷ []) = ap (widen_by E a) parts ∙ widen_by-append E a (map f (take i xs)) (f (get_or xs i d) ∷ []) in
    after
    ∙ ap (λ (y : Option Area). widen_by E y (l ∷ [])) before
    ∙ ap (λ (y : Key). widen_by E (widen_by E a (map f (take i xs))) (y ∷ [])) item
    ∙ sym whole

-- the element, what it lists, what the new content lists, and the new place
pub touched_area-is : (E : Elements) (k : Key) (new : Option (Content ℕ)) → touched_area E k new ≡ widen_all (widen_by E (widen_by E (widen_by E None (k ∷ [])) (refs_of E k)) (refs_in new)) (option_to_list (new_position new))
touched_area-is E k new =
    fold-append widen None (filter_map (position E) (k ∷ (refs_of E k ++ refs_in new))) (option_to_list (new_position new))
    ∙ ap (λ (a : Option Area). widen_all a (option_to_list (new_position new)))
    (widen_by-append E None (k ∷ []) (refs_of E k ++ refs_in new)
    ∙ widen_by-append E (widen_by E None (k ∷ [])) (refs_of E k) (refs_in new))

-- where there is a new content
pub touched_area-Some : (E : Elements) (k : Key) (new : Option (Content ℕ)) (content : Content ℕ) (a b : Option Area) → new ≡ Some content → a ≡ widen_by E (widen_by E None (k ∷ [])) (refs_of E k) → b ≡ widen_all (widen_by E a (refs content)) (option_to_list (position_in content)) → b ≡ touched_area E k new
touched_area-Some E k new content a b is old placed =
    placed
    ∙ ap (λ (x : Option Area). widen_all (widen_by E x (refs content)) (option_to_list (position_in content))) old
    ∙ sym (touched_area-is E k (Some content))
    ∙ ap (touched_area E k) (sym is)

-- where there is none
pub touched_area-None : (E : Elements) (k : Key) (new : Option (Content ℕ)) (a : Option Area) → new ≡ None → a ≡ widen_by E (widen_by E None (k ∷ [])) (refs_of E k) → a ≡ touched_area E k new
touched_area-None E k new a is old =
    old
    ∙ sym (touched_area-is E k None)
    ∙ ap (touched_area E k) (sym is)

-- the place of what an element holds, and the places of what it lists: one of them alone is there
pub old_area-is : (E : Elements) (k : Key) (held : Option (Content ℕ)) → held ≡ content_of E k → widen_all (widen_by E None (refs_in held)) (option_to_list (new_position held)) ≡ widen_by E (widen_by E None (k ∷ [])) (refs_of E k)
old_area-is E k held is =
    one held
    ∙ ap (λ (h : Option (Content ℕ)). widen_by E (widen_all None (filter_map new_position (h ∷ []))) (refs_in h)) is
  where
    one : (h : Option (Content ℕ)) → widen_all (widen_by E None (refs_in h)) (option_to_list (new_position h)) ≡ widen_by E (widen_all None (filter_map new_position (h ∷ []))) (refs_in h)
    one None = refl
    one (Some (Node at)) = refl
    one (Some (Way nodes)) = refl
    one (Some (Relation members)) = refl
