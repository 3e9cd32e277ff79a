-- The box of what an operation touches.
use Rattle.std.proofs.Common.{◌≡◌, ℕ, ℤ, zero, suc, ◌+◌, ◌≤◌, Bool, true, false, List, [], ◌∷◌, ◌++◌, length, take, Some, None, refl, sym, ap, ap₂, ◌∙◌, arith}
use Rattle.std.specs.Prelude.{Option, filter_map, option_and_then, option_to_list, slice_get, if◌then◌else◌}
use Rattle.std.specs.Int.{int_min, int_max}
use Rattle.std.specs.List.{cons_option}
use Rattle.std.specs.Option.{option_map_or}
use Rattle.std.proofs.lemmas.Int.{ints, clamps}
use Rattle.std.proofs.lemmas.List.{take_all}
use Rattle.std.proofs.lemmas.List.Elements.{filter_map-append}
use Rattle.std.proofs.lemmas.List.Sums.{fold-append}
use Rattle.osm_base.specs.Key.{key_eq}
use Rattle.osm_base.specs.Place.{Area, Position, at_position, area_join}
use Rattle.osm_base.specs.declared.keys.Key.{Key}
use Rattle.osm_base.proofs.Areas.{area_join-assoc, area_join-comm}
use Rattle.osm_base.proofs.KeyOrder.{key_eq-same}
use Rattle.osm_element.specs.Elements.{position, position_in, refs_in, refs_of}
use Rattle.osm_element.specs.declared.contents.Content.{Content}
use Rattle.changeset_core.specs.Changeset.{new_position, touched_area, widen, widen_all}
use Rattle.osm_model.specs.declared.uploads.Progress.{Progress}
use Rattle.upload_check.specs.Overlay.{Sight, position_now, touched_now, StandsFor}

-- one place more
pub cons_widened : (a : Option Area) (o : Option Position) (ps : List Position) → widen_all a (cons_option o ps) ≡ widen_all (widen_all a (option_to_list o)) ps
cons_widened a None ps = refl
cons_widened a (Some p) ps = refl

-- -- a place that a box has already

min-twice : (a b : ℤ) → int_min (int_min a b) b ≡ int_min a b
min-twice a b = grind (arith, ints, clamps)

max-twice : (a b : ℤ) → int_max (int_max a b) b ≡ int_max a b
max-twice a b = grind (arith, ints, clamps)

min-own : (a : ℤ) → int_min a a ≡ a
min-own a = grind (arith, ints, clamps)

max-own : (a : ℤ) → int_max a a ≡ a
max-own a = grind (arith, ints, clamps)

edges : ℤ → ℤ → ℤ → ℤ → Option Area
edges left bottom right top = Some (record { left = left; bottom = bottom; right = right; top = top })

edges-same : (l l' b b' r r' t t' : ℤ) → l ≡ l' → b ≡ b' → r ≡ r' → t ≡ t' → edges l b r t ≡ edges l' b' r' t'
edges-same l l' b b' r r' t t' left bottom right top =
    ap (λ (x : ℤ). edges x b r t) left
    ∙ ap (λ (x : ℤ). edges l' x r t) bottom
    ∙ ap (λ (x : ℤ). edges l' b' x t) right
    ∙ ap (λ (x : ℤ). edges l' b' r' x) top

twice : (a : Option Area) (p : Position) → widen (widen a p) p ≡ widen a p
unfolding edges
twice None p = edges-same (int_min p.lon7 p.lon7) p.lon7 (int_min p.lat7 p.lat7) p.lat7 (int_max p.lon7 p.lon7) p.lon7 (int_max p.lat7 p.lat7) p.lat7
    (min-own p.lon7) (min-own p.lat7) (max-own p.lon7) (max-own p.lat7)
twice (Some a) p = edges-same
    (int_min (int_min a.left p.lon7) p.lon7) (int_min a.left p.lon7)
    (int_min (int_min a.bottom p.lat7) p.lat7) (int_min a.bottom p.lat7)
    (int_max (int_max a.right p.lon7) p.lon7) (int_max a.right p.lon7)
    (int_max (int_max a.top p.lat7) p.lat7) (int_max a.top p.lat7)
    (min-twice a.left p.lon7) (min-twice a.bottom p.lat7) (max-twice a.right p.lon7) (max-twice a.top p.lat7)

swapped : (a : Option Area) (p q : Position) → widen (widen a p) q ≡ widen (widen a q) p
swapped None p q = ap (λ (x : Area). Some x) (area_join-comm (at_position p) (at_position q))
swapped (Some a) p q =
    ap (λ (x : Area). Some x)
    (area_join-assoc a (at_position p) (at_position q)
    ∙ ap (area_join a) (area_join-comm (at_position p) (at_position q))
    ∙ sym (area_join-assoc a (at_position q) (at_position p)))

past-one : (a : Option Area) (p : Position) (ps : List Position) → widen_all (widen a p) ps ≡ widen (widen_all a ps) p
past-one a p [] = refl
past-one a p (q ∷ qs) = ap (λ (x : Option Area). widen_all x qs) (swapped a p q) ∙ past-one (widen a q) p qs

-- two lists in either order
past : (a : Option Area) (ps qs : List Position) → widen_all (widen_all a ps) qs ≡ widen_all (widen_all a qs) ps
past a [] qs = refl
past a (p ∷ ps) qs = past (widen a p) ps qs ∙ ap (λ (x : Option Area). widen_all x ps) (past-one a p qs)

-- the places of the elements of two lists, then an element's own, then another
pub touched_is :
    (f : Key → Option Position) (k : Key) (begun ended : List Key) (o : Option Position) (a b c : Option Area)
    → a ≡ widen_all None (filter_map f (begun ++ ended))
    → b ≡ widen_all a (option_to_list (f k))
    → c ≡ widen_all b (option_to_list o)
    → c ≡ widen_all None (filter_map f (k ∷ (ended ++ begun)) ++ option_to_list o)
touched_is f k begun ended o a b c both first last =
    last
    ∙ ap (λ (x : Option Area). widen_all x (option_to_list o))
    (first
    ∙ ap (λ (x : Option Area). widen_all x (option_to_list (f k))) (both ∙ turned)
    ∙ past None (filter_map f (ended ++ begun)) (option_to_list (f k))
    ∙ sym (cons_widened None (f k) (filter_map f (ended ++ begun))))
    ∙ sym (fold-append widen None (filter_map f (k ∷ (ended ++ begun))) (option_to_list o))
  where
    turned : widen_all None (filter_map f (begun ++ ended)) ≡ widen_all None (filter_map f (ended ++ begun))
    turned =
        ap (widen_all None) (filter_map-append f begun ended)
        ∙ fold-append widen None (filter_map f begun) (filter_map f ended)
        ∙ past None (filter_map f begun) (filter_map f ended)
        ∙ sym (fold-append widen None (filter_map f ended) (filter_map f begun))
        ∙ sym (ap (widen_all None) (filter_map-append f ended begun))

stays : (a : Option Area) (p : Position) (ps : List Position) → widen a p ≡ a → widen (widen_all a ps) p ≡ widen_all a ps
stays a p [] there = there
stays a p (q ∷ ps) there = stays (widen a q) p ps (swapped a q p ∙ ap (λ (x : Option Area). widen x q) there)

same-key : (a b : Key) → ◌≡◌ {A = Option Key} (Some a) (Some b) → a ≡ b
same-key a b e = cc

within : (f : Key → Option Position) (a : Option Area) (ks : List Key) (i : ℕ) (k : Key) (p : Position)
    → slice_get ks i ≡ Some k
    → f k ≡ Some p
    → widen (widen_all a (filter_map f ks)) p ≡ widen_all a (filter_map f ks)
within f a [] i k p found at = cc
within f a (x ∷ xs) zero k p found at =
    let here : f x ≡ Some p = ap f (same-key x k found) ∙ at in
    let first : widen_all a (filter_map f (x ∷ xs)) ≡ widen_all (widen a p) (filter_map f xs) =
    ap (λ (o : Option Position). widen_all a (cons_option o (filter_map f xs))) here
    in
    ap (λ (y : Option Area). widen y p) first ∙ stays (widen a p) p (filter_map f xs) (twice a p) ∙ sym first
within f a (x ∷ xs) (suc i) k p found at =
    let first = cons_widened a (f x) (filter_map f xs) in
    ap (λ (y : Option Area). widen y p) first ∙ within f (widen_all a (option_to_list (f x))) xs i k p found at ∙ sym first

-- -- the elements of a second list, but for what stands at the same place in the first

pub begun_next :
    (f : Key → Option Position) (a : Option Area) (ended begun : List Key) (i : ℕ) (k : Key) (known : Bool) (now next : Option Area)
    → take (i + 1) begun ≡ take i begun ++ k ∷ []
    → now ≡ widen_all (widen_all a (filter_map f ended)) (filter_map f (take i begun))
    → known ≡ option_map_or (λ x. key_eq x k) (slice_get ended i) false
    → next ≡ (if known then now else widen_all now (option_to_list (f k)))
    → next ≡ widen_all (widen_all a (filter_map f ended)) (filter_map f (take (i + 1) begun))
begun_next f a ended begun i k known now next more so_far is goes = goes ∙ by known is ∙ sym onward
  where
    first : Option Area
    first = widen_all a (filter_map f ended)

    last : (o : Option Position) → cons_option o [] ≡ option_to_list o
    last None = refl
    last (Some p) = refl

    onward : widen_all first (filter_map f (take (i + 1) begun)) ≡ widen_all now (option_to_list (f k))
    onward =
        ap (λ (ks : List Key). widen_all first (filter_map f ks)) more
        ∙ ap (widen_all first) (filter_map-append f (take i begun) (k ∷ []) ∙ ap (λ (ps : List Position). filter_map f (take i begun) ++ ps) (last (f k)))
        ∙ fold-append widen first (filter_map f (take i begun)) (option_to_list (f k))
        ∙ ap (λ (x : Option Area). widen_all x (option_to_list (f k))) (sym so_far)

    here : (o : Option Key) → slice_get ended i ≡ o → true ≡ option_map_or (λ x. key_eq x k) o false → slice_get ended i ≡ Some k
    here None at e = cc
    here (Some x) at e = at ∙ ap (λ (y : Key). Some y) (key_eq-same x k (sym e))

    place : (o : Option Position) → f k ≡ o → slice_get ended i ≡ Some k → now ≡ widen_all now (option_to_list o)
    place None at found = refl
    place (Some p) at found =
        sym (ap (λ (x : Option Area). widen x p) so_far
        ∙ stays first p (filter_map f (take i begun)) (within f a ended i k p found at)
        ∙ sym so_far)

    by : (b : Bool) → b ≡ option_map_or (λ x. key_eq x k) (slice_get ended i) false → (if b then now else widen_all now (option_to_list (f k))) ≡ widen_all now (option_to_list (f k))
    by true e = place (f k) refl (here (slice_get ended i) refl e)
    by false e = refl

-- the same on the overlay and on what it stands for
places-same : (s : Sight) (g : Progress) (ks : List Key) → StandsFor s g → filter_map (position_now s) ks ≡ filter_map (position g.elements) ks
places-same s g [] st = refl
places-same s g (k ∷ ks) st =
    ap₂ (λ (o : Option Position) (ps : List Position). cons_option o ps)
    (ap (λ (c : Option (Content ℕ)). option_and_then position_in c) (st.content k))
    (places-same s g ks st)

pub touched-same : (s : Sight) (g : Progress) (k : Key) (new : Option (Content ℕ)) → StandsFor s g → touched_now s k new ≡ touched_area g.elements k new
touched-same s g k new st =
    ap (λ (c : Option (Content ℕ)). widen_all None (filter_map (position_now s) (k ∷ (refs_in c ++ refs_in new)) ++ option_to_list (new_position new))) (st.content k)
    ∙ ap (λ (ps : List Position). widen_all None (ps ++ option_to_list (new_position new))) (places-same s g (k ∷ (refs_of g.elements k ++ refs_in new)) st)

-- all of them
pub begun_all :
    (f : Key → Option Position) (a : Option Area) (ended begun : List Key) (i : ℕ) (now : Option Area)
    → length begun ≤ i
    → now ≡ widen_all (widen_all a (filter_map f ended)) (filter_map f (take i begun))
    → now ≡ widen_all a (filter_map f (ended ++ begun))
begun_all f a ended begun i now all so_far =
    so_far
    ∙ ap (λ (ks : List Key). widen_all (widen_all a (filter_map f ended)) (filter_map f ks)) (take_all i begun all)
    ∙ sym (fold-append widen a (filter_map f ended) (filter_map f begun))
    ∙ sym (ap (widen_all a) (filter_map-append f ended begun))
