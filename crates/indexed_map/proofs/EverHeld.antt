-- What every version of an element held, after a version more, or a mark.
use Rattle.std.proofs.Common.{◌≡◌, ℕ, zero, suc, ◌+◌, ◌-◌, ◌<◌, ◌≤◌, Bool, true, false, ◌&&◌, ◌||◌, ⊎_elim, List, [], ◌∷◌, ◌++◌, length, map, take, get_or, Option, Some, None, refl, sym, ap, ◌∙◌, arith}
use Rattle.std.specs.Prelude.{not, ◌==◌, if◌then◌else◌, option_and_then, slice_get, slice_set}
use Rattle.std.specs.List.{list_any}
use Rattle.std.specs.Option.{ForSome, option_map_or, option_or}
use Rattle.std.proofs.lemmas.Bool.Decides.{nat_tests}
use Rattle.std.proofs.lemmas.Bool.{cases_Bool, and_from, eq-eqb, eqb-true, false≢true}
use Rattle.std.proofs.lemmas.List.{take_more}
use Rattle.std.proofs.lemmas.List.Folds.{list_any-append}
use Rattle.osm_base.specs.Key.{kind_eq, key_eq, lists_key}
use Rattle.osm_base.specs.Place.{Position}
use Rattle.osm_base.specs.declared.keys.Kind.{Kind}
use Rattle.osm_base.specs.declared.keys.Kind.TheVariants.{Node}
use Rattle.osm_base.specs.declared.keys.Key.{Key}
use Rattle.osm_base.proofs.KeyOrder.{kind_eq-same, key_eq-same}
use Rattle.osm_element.specs.declared.contents.Content.{Content}
use Rattle.osm_element.specs.Version.{Version}
use Rattle.osm_element.specs.declared.elements.Elements.{Elements}
use Rattle.osm_element.specs.Elements.{key, next_id, history, position, count, refs_in, uses, push_version, mark_in, mark}
use Rattle.osm_element.specs.Later.{contents}
use Rattle.osm_element.proofs.Pushed.{history-push, last_content}
use Rattle.osm_element.proofs.Later.{history-mark, given_some}
use Rattle.changeset_core.specs.Changeset.{new_position}
use Rattle.tile_grid.specs.declared.cells.Cell.{Cell}
use Rattle.tile_grid.specs.Cell.{cell_of}
use Rattle.tile_grid.specs.Grid.{times, times_ever}
use Rattle.tile_grid.specs.Tile.{Held}
use Rattle.indexed_map.specs.Ever.{ever, has_used, has_lain, last_place, place_ever, times_brought, IsPlacedEver}
use Rattle.indexed_map.specs.Placed.{lies, share_cell}
use Rattle.indexed_map.proofs.Together.{together}

abbrev ones : Bool → ℕ
ones b = if b then 1 else 0

-- -- a version more

map-push : (vs : List Version) (v : Version) → map (λ (v : Version). v.content) (vs ++ v ∷ []) ≡ map (λ (v : Version). v.content) vs ++ v.content ∷ []
map-push [] v = refl
map-push (w ∷ vs) v = ap (λ (l : List (Option (Content ℕ))). w.content ∷ l) (map-push vs v)

or-false : (b : Bool) → b || false ≡ b
or-false true = refl
or-false false = refl

or-true : (b : Bool) → b || true ≡ true
or-true true = refl
or-true false = refl

contents-push :
    (E : Elements) (k a : Key) (v : Version)
    → 0 < k.id
    → k.id ≤ next_id E k.kind
    → contents (push_version E k v) a ≡ if key_eq a k then contents E k ++ v.content ∷ [] else contents E a
contents-push E k a v counted reached =
    ap (map (λ (v : Version). v.content)) (history-push E k a v counted reached)
    ∙ along (key_eq a k)
  where
    along : (b : Bool) → map (λ (v : Version). v.content) (if b then history E k ++ v ∷ [] else history E a) ≡ if b then contents E k ++ v.content ∷ [] else contents E a
    along true = map-push (history E k) v
    along false = refl

pub ever-push :
    (test : Option (Content ℕ) → Bool) (E : Elements) (k a : Key) (v : Version)
    → 0 < k.id
    → k.id ≤ next_id E k.kind
    → ever test (push_version E k v) a ≡ if key_eq a k then ever test E k || test v.content else ever test E a
ever-push test E k a v counted reached = ap (list_any test) (contents-push E k a v counted reached) ∙ along (key_eq a k)
  where
    along : (b : Bool) → list_any test (if b then contents E k ++ v.content ∷ [] else contents E a) ≡ if b then ever test E k || test v.content else ever test E a
    along true =
        list_any-append test (contents E k) (v.content ∷ [])
        ∙ ap (λ (b : Bool). ever test E k || b) (or-false (test v.content))
    along false = refl

-- what an element used it has used still
pub used-push :
    (E : Elements) (k a b : Key) (v : Version)
    → 0 < k.id
    → k.id ≤ next_id E k.kind
    → has_used E a b ≡ true
    → has_used (push_version E k v) a b ≡ true
used-push E k a b v counted reached had =
    let test : Option (Content ℕ) → Bool = λ content. lists_key (refs_in content) b in
    ap (λ (p : Bool). p && not (key_eq a b)) (ever-push test E k a v counted reached)
    ∙ along (key_eq a k) (ever test E a) (ever test E k) (test v.content) (key_eq a b) (λ t. ap (ever test E) (key_eq-same a k t)) had
  where
    more : (h x s : Bool) → h && not s ≡ true → (h || x) && not s ≡ true
    more true x s held = held
    more false x s held = absurd (false≢true held)

    along : (p h own x s : Bool) → (p ≡ true → h ≡ own) → h && not s ≡ true → (if p then own || x else h) && not s ≡ true
    along true h own x s same held = ap (λ (q : Bool). (q || x) && not s) (sym (same refl)) ∙ more h x s held
    along false h own x s same held = held

-- -- where a node came

pub place-push : (before : Option Position) (hs : List (Option (Content ℕ))) (held : Option (Content ℕ)) → last_place before (hs ++ held ∷ []) ≡ option_or (new_position held) (last_place before hs)
place-push before [] held = refl
place-push before (h ∷ hs) held = place-push (option_or (new_position h) before) hs held

brought-push :
    (c : Cell) (before : Option Position) (hs : List (Option (Content ℕ))) (held : Option (Content ℕ))
    → times_brought c before (hs ++ held ∷ []) ≡ times_brought c before hs + (if lies c (new_position held) && not (lies c (last_place before hs)) then 1 else 0)
brought-push c before [] held = omega arith
brought-push c before (h ∷ hs) held = omega (arith, brought-push c (option_or (new_position h) before) hs held)

-- the versions up to one, and that one
pub place-more :
    (vs : List Version) (i : ℕ) (d : Version)
    → i < length vs
    → last_place None (map (λ (v : Version). v.content) (take (i + 1) vs)) ≡ option_or (new_position (get_or vs i d).content) (last_place None (map (λ (v : Version). v.content) (take i vs)))
place-more vs i d within =
    ap (λ (l : List Version). last_place None (map (λ (v : Version). v.content) l)) (take_more vs i d within)
    ∙ ap (last_place None) (map-push (take i vs) (get_or vs i d))
    ∙ place-push None (map (λ (v : Version). v.content) (take i vs)) (get_or vs i d).content

placed_more :
    (E : Elements) (g₀ g₁ : List (List Held)) (k : Key) (v : Version)
    → kind_eq k.kind Node ≡ true
    → 0 < k.id
    → k.id ≤ next_id E k.kind
    → IsPlacedEver E g₀
    → ((c : Cell) (n : ℕ) → times_ever g₁ c n ≡ times_ever g₀ c n + (if (lies c (new_position v.content) && not (lies c (place_ever E k))) && (n == k.id) then 1 else 0))
    → IsPlacedEver (push_version E k v) g₁
placed_more E g₀ g₁ k v is_node counted reached was step = record { holds = λ c n. holds c n ∙ sym (ap (times_brought c None) (contents-push E k (key Node n) v counted reached)) }
  where
    kinds : k.kind ≡ Node
    kinds = kind_eq-same k.kind Node is_node

    same_key : (n : ℕ) → key_eq (key Node n) k ≡ (n == k.id)
    same_key n = ap (λ (kind : Kind). kind_eq Node kind && (n == k.id)) kinds

    and-true : (b : Bool) → b && true ≡ b
    and-true true = refl
    and-true false = refl

    and-false : (b : Bool) → b && false ≡ false
    and-false true = refl
    and-false false = refl

    holds : (c : Cell) (n : ℕ) → times_ever g₁ c n ≡ times_brought c None (if key_eq (key Node n) k then contents E k ++ v.content ∷ [] else contents E (key Node n))
    holds c n =
        ⊎_elim
        (λ yes. let here : key Node n ≡ k = ap (λ (m : ℕ). key Node m) (eqb-true n k.id yes) ∙ ap (λ (kind : Kind). key kind k.id) (sym kinds) in
        let before : times_ever g₀ c n ≡ times_brought c None (contents E k) = was.holds c n ∙ ap (λ (x : Key). times_brought c None (contents E x)) here in
        let more : ones ((lies c (new_position v.content) && not (lies c (place_ever E k))) && (n == k.id)) ≡ ones (lies c (new_position v.content) && not (lies c (place_ever E k)))
        = ap (λ (b : Bool). ones ((lies c (new_position v.content) && not (lies c (place_ever E k))) && b)) yes ∙ ap ones (and-true (lies c (new_position v.content) && not (lies c (place_ever E k)))) in
        let sum : times_ever g₁ c n ≡ times_brought c None (contents E k) + ones (lies c (new_position v.content) && not (lies c (place_ever E k))) = omega (arith, step c n, before, more) in
        sum
        ∙ sym (brought-push c None (contents E k) v.content)
        ∙ ap (λ (b : Bool). times_brought c None (if b then contents E k ++ v.content ∷ [] else contents E (key Node n))) (sym (same_key n ∙ yes)))
        (λ no. let none : ones ((lies c (new_position v.content) && not (lies c (place_ever E k))) && (n == k.id)) ≡ 0
        = ap (λ (b : Bool). ones ((lies c (new_position v.content) && not (lies c (place_ever E k))) && b)) no ∙ ap ones (and-false (lies c (new_position v.content) && not (lies c (place_ever E k)))) in
        let same : times_ever g₁ c n ≡ times_ever g₀ c n = omega (arith, step c n, none) in
        same
        ∙ was.holds c n
        ∙ ap (λ (b : Bool). times_brought c None (if b then contents E k ++ v.content ∷ [] else contents E (key Node n))) (sym (same_key n ∙ no)))
        (cases_Bool (n == k.id))

-- it comes from another cell, or back into the one in which it lay last
pub moved_ever :
    (E : Elements) (g₀ g₁ g₂ : List (List Held)) (k : Key) (v : Version) (last to : Option Position)
    → kind_eq k.kind Node ≡ true
    → 0 < k.id
    → k.id ≤ next_id E k.kind
    → IsPlacedEver E g₀
    → last ≡ place_ever E k
    → to ≡ new_position v.content
    → ((c : Cell) (n : ℕ) → times_ever g₁ c n ≡ times_ever g₀ c n)
    → ((c : Cell) (n : ℕ) → times_ever g₂ c n ≡ times_ever g₁ c n + (if (lies c to && not (lies c last)) && (n == k.id) then 1 else 0))
    → IsPlacedEver (push_version E k v) g₂
moved_ever E g₀ g₁ g₂ k v last to is_node counted reached was last_is to_is left arrived =
    placed_more E g₀ g₂ k v is_node counted reached was
    (λ c n. let same : ones ((lies c to && not (lies c last)) && (n == k.id)) ≡ ones ((lies c (new_position v.content) && not (lies c (place_ever E k))) && (n == k.id))
    = ap (λ (o : Option Position). ones ((lies c o && not (lies c last)) && (n == k.id))) to_is
    ∙ ap (λ (o : Option Position). ones ((lies c (new_position v.content) && not (lies c o)) && (n == k.id))) last_is in
    omega (arith, left c n, arrived c n, same))

-- ways and relations lie in no cell
pub placed_other :
    (E : Elements) (g : List (List Held)) (k : Key) (v : Version)
    → kind_eq k.kind Node ≡ false
    → 0 < k.id
    → k.id ≤ next_id E k.kind
    → IsPlacedEver E g
    → IsPlacedEver (push_version E k v) g
placed_other E g k v other counted reached was = record {
  holds = λ c n. was.holds c n
      ∙ ap (λ (b : Bool). times_brought c None (if b then contents E k ++ v.content ∷ [] else contents E (key Node n))) (sym (apart_from n))
      ∙ sym (ap (times_brought c None) (contents-push E k (key Node n) v counted reached));
}
  where
    turned : (a b : Kind) → kind_eq a b ≡ kind_eq b a
    turned a b = grind (arith, nat_tests)

    apart_from : (n : ℕ) → key_eq (key Node n) k ≡ false
    apart_from n = ap (λ (b : Bool). b && (n == k.id)) (turned Node k.kind ∙ other)

-- -- who lay in a cell came there

brought-there :
    (c : Cell) (before : Option Position) (hs : List (Option (Content ℕ)))
    → lies c before ≡ false
    → list_any (λ held. lies c (new_position held)) hs ≡ true
    → 0 < times_brought c before hs
brought-there c before [] out some = absurd (false≢true some)
brought-there c before (h ∷ hs) out some =
    ⊎_elim
    (λ t. let one : ones (lies c (new_position h) && not (lies c before)) ≡ 1
    = ap (λ (b : Bool). ones (b && not (lies c before))) t ∙ ap (λ (b : Bool). ones (not b)) out in
    omega (arith, one))
    (λ f. let later : 0 < times_brought c (option_or (new_position h) before) hs
    = brought-there c (option_or (new_position h) before) hs (still (new_position h) f) (sym (ap (λ (b : Bool). b || list_any (λ held. lies c (new_position held)) hs) f) ∙ some) in
    omega (arith, later))
    (cases_Bool (lies c (new_position h)))
  where
    still : (o : Option Position) → lies c o ≡ false → lies c (option_or o before) ≡ false
    still None f = out
    still (Some p) f = f

lies-brought : (c : Cell) (before : Option Position) (hs : List (Option (Content ℕ))) → lies c before ≡ false → lies c (last_place before hs) ≡ true → 0 < times_brought c before hs
lies-brought c before [] out there = absurd (false≢true (sym out ∙ there))
lies-brought c before (h ∷ hs) out there =
    ⊎_elim
    (λ t. let one : ones (lies c (new_position h) && not (lies c before)) ≡ 1
    = ap (λ (b : Bool). ones (b && not (lies c before))) t ∙ ap (λ (b : Bool). ones (not b)) out in
    omega (arith, one))
    (λ f. let later : 0 < times_brought c (option_or (new_position h) before) hs
    = lies-brought c (option_or (new_position h) before) hs (still (new_position h) f) there in
    omega (arith, later))
    (cases_Bool (lies c (new_position h)))
  where
    still : (o : Option Position) → lies c o ≡ false → lies c (option_or o before) ≡ false
    still None f = out
    still (Some p) f = f

-- a node that left the cells in which it lay may come back into the one in which it lay last
pub may_come_back :
    (E : Elements) (g₀ g₁ : List (List Held)) (k : Key) (from last to : Option Position)
    → kind_eq k.kind Node ≡ true
    → IsPlacedEver E g₀
    → last ≡ place_ever E k
    → ((c : Cell) → times g₀ c k.id ≡ (if lies c from then 1 else 0))
    → ((c : Cell) (n : ℕ) → times g₁ c n + (if lies c from && (n == k.id) then 1 else 0) ≡ times g₀ c n)
    → ((c : Cell) (n : ℕ) → times_ever g₁ c n ≡ times_ever g₀ c n)
    → share_cell last to ≡ true
    → ForSome to (λ p. times g₁ (cell_of p) k.id < times_ever g₁ (cell_of p) k.id)
may_come_back E g₀ g₁ k from last to is_node was last_is stood left kept shared p is =
    let c : Cell = cell_of p in
    let here : lies c (Some p) ≡ true = and_from _ _ (eq-eqb c.row c.row refl) (eq-eqb c.column c.column refl) in
    let there : lies c (place_ever E k) ≡ true
    = ap (lies c) (sym last_is) ∙ together last to shared c ∙ ap (lies c) is ∙ here in
    let node : key Node k.id ≡ k = ap (λ (kind : Kind). key kind k.id) (sym (kind_eq-same k.kind Node is_node)) in
    let brought : 0 < times_brought c None (contents E k) = lies-brought c None (contents E k) refl there in
    let ever : times_ever g₀ c k.id ≡ times_brought c None (contents E k) = was.holds c k.id ∙ ap (λ (x : Key). times_brought c None (contents E x)) node in
    let itself : k.id == k.id ≡ true = eq-eqb k.id k.id refl in
    let gone : ones (lies c from && (k.id == k.id)) ≡ ones (lies c from) = ap (λ (b : Bool). ones (lies c from && b)) itself ∙ ap ones (and-true (lies c from)) in
    omega (arith, brought, ever, gone, stood c, left c k.id, kept c k.id)
  where
    and-true : (b : Bool) → b && true ≡ b
    and-true true = refl
    and-true false = refl

pub lain-placed :
    (E : Elements) (g : List (List Held)) (c : Cell) (n : ℕ)
    → IsPlacedEver E g
    → has_lain E c n ≡ true
    → 0 < times_ever g c n
lain-placed E g c n was lain = omega (arith, was.holds c n, brought-there c None (contents E (key Node n)) refl lain)

-- -- a mark

contents-set :
    (vs : List Version) (i : ℕ) (m : Option ℕ) (v : Version)
    → slice_get vs i ≡ Some v
    → map (λ (v : Version). v.content) (slice_set vs i (record v { redaction = m })) ≡ map (λ (v : Version). v.content) vs
contents-set [] i m v there = refl
contents-set (x ∷ xs) zero m v there =
    let e : v ≡ x = cc in ap (λ (w : Version). w.content ∷ map (λ (v : Version). v.content) xs) e
contents-set (x ∷ xs) (suc i) m v there = ap (λ (l : List (Option (Content ℕ))). x.content ∷ l) (contents-set xs i m v there)

contents-mark_in : (vs : List Version) (n : ℕ) (m : Option ℕ) → map (λ (v : Version). v.content) (mark_in vs n m) ≡ map (λ (v : Version). v.content) vs
contents-mark_in vs n m = by (n == 0)
  where
    set_at : (o : Option Version) → ((v : Version) → o ≡ Some v → slice_get vs (n - 1) ≡ Some v)
        → map (λ (v : Version). v.content) (option_map_or (λ (v : Version). slice_set vs (n - 1) (record v { redaction = m })) o vs) ≡ map (λ (v : Version). v.content) vs
    set_at None there = refl
    set_at (Some v) there = contents-set vs (n - 1) m v (there v refl)

    by : (b : Bool)
        → map (λ (v : Version). v.content) (option_map_or (λ (v : Version). slice_set vs (n - 1) (record v { redaction = m })) (if b then None else slice_get vs (n - 1)) vs)
        ≡ map (λ (v : Version). v.content) vs
    by true = refl
    by false = set_at (slice_get vs (n - 1)) (λ v e. e)

contents-mark :
    (E : Elements) (k a : Key) (n : ℕ) (m : Option ℕ)
    → 0 < n
    → n ≤ count E k
    → contents (mark E k n m) a ≡ contents E a
contents-mark E k a n m some made =
    let given = given_some E k (omega (arith, some, made)) in
    ap (map (λ (v : Version). v.content)) (history-mark E k a n m given.0 given.1)
    ∙ ⊎_elim
    (λ t. ap (λ (b : Bool). map (λ (v : Version). v.content) (if b then mark_in (history E k) n m else history E a)) t
    ∙ contents-mark_in (history E k) n m
    ∙ ap (contents E) (sym (key_eq-same a k t)))
    (λ f. ap (λ (b : Bool). map (λ (v : Version). v.content) (if b then mark_in (history E k) n m else history E a)) f)
    (cases_Bool (key_eq a k))

pub used-mark : (E : Elements) (k a b : Key) (n : ℕ) (m : Option ℕ) → 0 < n → n ≤ count E k → has_used (mark E k n m) a b ≡ has_used E a b
used-mark E k a b n m some made = ap (λ (hs : List (Option (Content ℕ))). list_any (λ held. lists_key (refs_in held) b) hs && not (key_eq a b)) (contents-mark E k a n m some made)

pub marked_placed_ever : (E : Elements) (g : List (List Held)) (k : Key) (n : ℕ) (m : Option ℕ) → 0 < n → n ≤ count E k → IsPlacedEver E g → IsPlacedEver (mark E k n m) g
marked_placed_ever E g k n m some made was = record {
  holds = λ c id. was.holds c id ∙ ap (times_brought c None) (sym (contents-mark E k (key Node id) n m some made));
}

-- -- what is held now was held ever

held-at :
    (test : Option (Content ℕ) → Bool) (vs : List Version) (i : ℕ)
    → test None ≡ false
    → test (option_and_then (λ (v : Version). v.content) (slice_get vs i)) ≡ true
    → list_any test (map (λ (v : Version). v.content) vs) ≡ true
held-at test [] i none passes = absurd (false≢true (sym none ∙ passes))
held-at test (v ∷ vs) zero none passes = ap (λ (b : Bool). b || list_any test (map (λ (v : Version). v.content) vs)) passes
held-at test (v ∷ vs) (suc i) none passes = ap (λ (b : Bool). test v.content || b) (held-at test vs i none passes) ∙ or-true (test v.content)

pub last-ever :
    (test : Option (Content ℕ) → Bool) (vs : List Version)
    → test None ≡ false
    → test (last_content vs) ≡ true
    → list_any test (map (λ (v : Version). v.content) vs) ≡ true
last-ever test vs none = along (length vs == 0)
  where
    along : (b : Bool)
        → test (option_and_then (λ (v : Version). v.content) (if b then None else slice_get vs (length vs - 1))) ≡ true
        → list_any test (map (λ (v : Version). v.content) vs) ≡ true
    along true passes = absurd (false≢true (sym none ∙ passes))
    along false passes = held-at test vs (length vs - 1) none passes

pub uses-ever : (E : Elements) (a b : Key) → uses E a b ≡ true → has_used E a b ≡ true
uses-ever E a b now = along (lists_key (refs_in (last_content (history E a))) b) (not (key_eq a b)) refl now
  where
    along : (p q : Bool) → lists_key (refs_in (last_content (history E a))) b ≡ p → p && q ≡ true → ever (λ held. lists_key (refs_in held) b) E a && q ≡ true
    along true q last passes = ap (λ (p : Bool). p && q) (last-ever (λ held. lists_key (refs_in held) b) (history E a) refl last) ∙ passes
    along false q last passes = cc

-- -- where a node lies now it lay last

lies-last :
    (c : Cell) (before : Option Position) (vs : List Version) (i : ℕ)
    → i + 1 ≡ length vs
    → lies c (new_position (option_and_then (λ (v : Version). v.content) (slice_get vs i))) ≡ true
    → lies c (last_place before (map (λ (v : Version). v.content) vs)) ≡ true
lies-last c before [] i last there = absurd (omega (arith, last))
lies-last c before (v ∷ []) zero last there = along (new_position v.content) there
  where
    along : (o : Option Position) → lies c o ≡ true → lies c (option_or o before) ≡ true
    along None there = absurd (false≢true there)
    along (Some p) there = there
lies-last c before (v ∷ w ∷ ws) zero last there = absurd (omega (arith, last))
lies-last c before (v ∷ vs) (suc i) last there = lies-last c (option_or (new_position v.content) before) vs i (omega (arith, last)) there

pub lay-last : (E : Elements) (k : Key) (c : Cell) → lies c (position E k) ≡ true → lies c (place_ever E k) ≡ true
lay-last E k c = along (length (history E k) == 0) refl
  where
    along : (b : Bool)
        → (length (history E k) == 0) ≡ b
        → lies c (new_position (option_and_then (λ (v : Version). v.content) (if b then None else slice_get (history E k) (length (history E k) - 1)))) ≡ true
        → lies c (place_ever E k) ≡ true
    along true none there = absurd (false≢true there)
    along false some there =
        let more : length (history E k) - 1 + 1 ≡ length (history E k) = grind (arith, nat_tests) in
        lies-last c None (history E k) (length (history E k) - 1) more there

-- it stays in its cell
pub stayed_ever :
    (E : Elements) (g : List (List Held)) (k : Key) (v : Version) (from to : Option Position)
    → kind_eq k.kind Node ≡ true
    → 0 < k.id
    → k.id ≤ next_id E k.kind
    → IsPlacedEver E g
    → from ≡ position E k
    → to ≡ new_position v.content
    → share_cell from to ≡ true
    → IsPlacedEver (push_version E k v) g
stayed_ever E g k v from to is_node counted reached was from_is to_is shared =
    placed_more E g g k v is_node counted reached was
    (λ c n. let none : ones ((lies c (new_position v.content) && not (lies c (place_ever E k))) && (n == k.id)) ≡ 0
    = ap (λ (o : Option Position). ones ((lies c o && not (lies c (place_ever E k))) && (n == k.id))) (sym to_is)
    ∙ ap (λ (b : Bool). ones ((b && not (lies c (place_ever E k))) && (n == k.id))) (sym (together from to shared c))
    ∙ ap (λ (b : Bool). ones (b && (n == k.id))) (lain (lies c from) (lies c (place_ever E k)) (λ here. lay-last E k c (ap (lies c) (sym from_is) ∙ here))) in
    omega (arith, none))
  where
    lain : (now last : Bool) → (now ≡ true → last ≡ true) → now && not last ≡ false
    lain true last h = ap not (h refl)
    lain false last h = refl
