-- What the indexes that never forget give has all that was there.
use Rattle.std.proofs.Common.{◌≡◌, ℕ, zero, suc, ◌+◌, ◌-◌, ◌<◌, Bool, true, false, ◌&&◌, ◌||◌, ⊎_elim, List, [], ◌∷◌, length, map, get_or, take, Option, Some, None, cond, refl, sym, ap, ◌∙◌, arith}
use Rattle.std.specs.Prelude.{◌==◌, if◌then◌else◌, not, filter, slice_get, option_and_then}
use Rattle.std.specs.List.{list_any, AllPairs}
use Rattle.std.specs.List.Sorted.{IsStrictlyIncreasing}
use Rattle.std.specs.Option.{option_map_or}
use Rattle.std.proofs.lemmas.Bool.{false≢true, cases_Bool, or_cases, and_from, eq-eqb}
use Rattle.std.proofs.lemmas.Bool.Decides.{nat_tests}
use Rattle.std.proofs.lemmas.List.Folds.{list_any_more}
use Rattle.std.proofs.lemmas.List.Kept.{AllPairs-from_increasing}
use Rattle.osm_base.specs.Key.{kind_eq, key_eq, key_lt, lists_key, IsAfter, IsRising}
use Rattle.osm_base.specs.Place.{Area, Position, IsArea, area_holds}
use Rattle.osm_base.specs.declared.keys.Key.{Key}
use Rattle.osm_base.specs.declared.keys.Kind.{Kind}
use Rattle.osm_base.specs.declared.keys.Kind.TheVariants.{Node}
use Rattle.osm_base.proofs.KeyOrder.{kind_eq-same, key_eq-same, key_eq-refl, key_eq-sym}
use Rattle.osm_element.specs.Elements.{key, history, content_of, position, position_in, refs_in, refs_of, uses}
use Rattle.osm_element.specs.declared.contents.Content.{Content}
use Rattle.osm_element.specs.declared.elements.Elements.{Elements}
use Rattle.osm_element.specs.Version.{Version}
use Rattle.osm_element.proofs.Listed.{lists_node_mapped}
use Rattle.osm_element.proofs.Pushed.{last_content}
use Rattle.osm_model.specs.Past.{was_made, elements_by, is_last_shown}
use Rattle.osm_model.specs.PastMap.{is_in, lists_one, nodes_in, users_among}
use Rattle.tile_grid.specs.declared.cells.Cell.{Cell}
use Rattle.tile_grid.specs.Cell.{cell_of, touches}
use Rattle.tile_grid.specs.Grid.{times_ever}
use Rattle.tile_grid.specs.Tile.{Held}
use Rattle.rising_lists.specs.Ids.{lists_id}
use Rattle.indexed_map.specs.Ever.{ever, has_used, has_lain, IsPlacedEver}
use Rattle.indexed_map.specs.Placed.{lies}
use Rattle.attic_reads.specs.Attic.{is_candidate}
use Rattle.attic_reads.proofs.Cut.{history-by}
use Rattle.attic_reads.proofs.Walked.{kind-filter-are}

or-true : (b : Bool) → b || true ≡ true
or-true true = refl
or-true false = refl

or-right : (p q : Bool) → q ≡ true → p || q ≡ true
or-right p q h = ap (λ (b : Bool). p || b) h ∙ or-true p

or-left : (p q : Bool) → p ≡ true → p || q ≡ true
or-left p q h = ap (λ (b : Bool). b || q) h

-- -- what an element held at a stamp, some version of it holds

held-at :
    (test : Option (Content ℕ) → Bool) (vs : List Version) (i : ℕ)
    → test None ≡ false
    → test (option_and_then (λ (v : Version). v.content) (slice_get vs i)) ≡ true
    → list_any test (map (λ (v : Version). v.content) vs) ≡ true
held-at test [] i never passes = absurd (false≢true (sym never ∙ passes))
held-at test (v ∷ vs) zero never passes = or-left (test v.content) (list_any test (map (λ (v : Version). v.content) vs)) passes
held-at test (v ∷ vs) (suc i) never passes = or-right (test v.content) (list_any test (map (λ (v : Version). v.content) vs)) (held-at test vs i never passes)

last-held :
    (test : Option (Content ℕ) → Bool) (vs : List Version)
    → test None ≡ false
    → test (last_content vs) ≡ true
    → list_any test (map (λ (v : Version). v.content) vs) ≡ true
last-held test vs never = along (length vs == 0)
  where
    along : (b : Bool)
        → test (option_and_then (λ (v : Version). v.content) (if b then None else slice_get vs (length vs - 1))) ≡ true
        → list_any test (map (λ (v : Version). v.content) vs) ≡ true
    along true passes = absurd (false≢true (sym never ∙ passes))
    along false passes = held-at test vs (length vs - 1) never passes

of-more :
    (test : Option (Content ℕ) → Bool) (p : Version → Bool) (vs : List Version)
    → list_any test (map (λ (v : Version). v.content) (filter p vs)) ≡ true
    → list_any test (map (λ (v : Version). v.content) vs) ≡ true
of-more test p [] passes = passes
of-more test p (v ∷ vs) passed = along (p v) (λ passes. of-more test p vs passes) passed
  where
    rest : Bool
    rest = list_any test (map (λ (v : Version). v.content) vs)

    along : (b : Bool)
        → (list_any test (map (λ (v : Version). v.content) (filter p vs)) ≡ true → rest ≡ true)
        → list_any test (map (λ (v : Version). v.content) (cond b (v ∷ filter p vs) (filter p vs))) ≡ true
        → test v.content || rest ≡ true
    along true more passes =
        ⊎_elim
        (λ here. or-left (test v.content) rest here)
        (λ later. or-right (test v.content) rest (more later))
        (or_cases (test v.content) (list_any test (map (λ (v : Version). v.content) (filter p vs))) passes)
    along false more passes = or-right (test v.content) rest (more passes)

pub past-ever :
    (test : Option (Content ℕ) → Bool) (t : ℕ) (E : Elements) (x : Key)
    → test None ≡ false
    → test (content_of (elements_by t E) x) ≡ true
    → ever test E x ≡ true
past-ever test t E x never passes =
    of-more test (was_made t) (history E x)
    (sym (ap (λ (vs : List Version). list_any test (map (λ (v : Version). v.content) vs)) (history-by t E x)) ∙ last-held test (history (elements_by t E) x) never passes)

-- -- nodes

nodes-after : (x : ℕ) (ys : List ℕ) → ((j d : ℕ) → j < length ys → x < get_or ys j d) → IsAfter (key Node x) (map (key Node) ys)
nodes-after x [] less = tt
nodes-after x (y ∷ ys) less = (before (less 0 0 (omega arith)), nodes-after x ys (λ j d h. less (suc j) d (omega (arith, h))))
  where
    before : x < y → key_lt (key Node x) (key Node y) ≡ true
    before h = grind (arith, nat_tests)

nodes-rising : (xs : List ℕ) → AllPairs (λ x y. x < y) xs → IsRising (map (key Node) xs)
nodes-rising [] pairs = tt
nodes-rising (x ∷ xs) pairs = (
  nodes-after x xs (λ j d h. pairs 0 (suc j) d (omega arith) (omega (arith, h))),
  nodes-rising xs (λ i j d less h. pairs (suc i) (suc j) d (omega (arith, less)) (omega (arith, h))),
)

-- which keys a list of nodes has
node-listed : (ids : List ℕ) (x : Key) → lists_key (map (key Node) ids) x ≡ kind_eq x.kind Node && lists_id ids x.id
node-listed ids x = lists_node_mapped ids x ∙ ⊎_elim (λ t. same t ids ∙ ap (λ (b : Bool). b && lists_id ids x.id) (sym t)) (λ f. none f ids ∙ ap (λ (b : Bool). b && lists_id ids x.id) (sym f)) (cases_Bool (kind_eq x.kind Node))
  where
    turned : (a b : Kind) → kind_eq a b ≡ kind_eq b a
    turned a b = grind (arith, nat_tests)

    same : kind_eq x.kind Node ≡ true → (ids : List ℕ) → list_any (λ id. key_eq (key Node id) x) ids ≡ lists_id ids x.id
    same t [] = refl
    same t (id ∷ ids) =
        ap (λ (b : Bool). (b && (id == x.id)) || list_any (λ id. key_eq (key Node id) x) ids) (turned Node x.kind ∙ t)
        ∙ ap (λ (b : Bool). (id == x.id) || b) (same t ids)

    none : kind_eq x.kind Node ≡ false → (ids : List ℕ) → list_any (λ id. key_eq (key Node id) x) ids ≡ false
    none f [] = refl
    none f (id ∷ ids) =
        ap (λ (b : Bool). (b && (id == x.id)) || list_any (λ id. key_eq (key Node id) x) ids) (turned Node x.kind ∙ f)
        ∙ none f ids

-- the nodes in an area, among those that ever lay in a cell that it touches
pub nodes-found :
    (touched : (a : Area) (p : Position) → IsArea a.left a.bottom a.right a.top → area_holds a p ≡ true → touches a (cell_of p) ≡ true)
    (placed : (E : Elements) (g : List (List Held)) (c : Cell) (n : ℕ) → IsPlacedEver E g → has_lain E c n ≡ true → 0 < times_ever g c n)
    (t : ℕ) (E : Elements) (g : List (List Held)) (a : Area) (near : List ℕ)
    → IsArea a.left a.bottom a.right a.top
    → IsPlacedEver E g
    → IsStrictlyIncreasing near
    → ((c : Cell) (n : ℕ) → touches a c ≡ true → 0 < times_ever g c n → lists_id near n ≡ true)
    → filter (λ k. is_last_shown (elements_by t E) k && is_in (elements_by t E) a k) (map (key Node) near) ≡ nodes_in (elements_by t E) a
nodes-found touched placed t E g a near is ever_there up all =
    kind-filter-are F Node (is_in F a) (map (key Node) near) (nodes-rising near (AllPairs-from_increasing near up))
    (λ x shown inside. node-listed near x ∙ ⊎_elim
    (λ yes. ap (λ (b : Bool). b && lists_id near x.id) yes ∙ there x (kind_eq-same x.kind Node yes) (position F x) refl inside ∙ sym yes)
    (λ no. ap (λ (b : Bool). b && lists_id near x.id) no ∙ sym no)
    (cases_Bool (kind_eq x.kind Node)))
  where
    F : Elements
    F = elements_by t E

    itself : (p : Position) → lies (cell_of p) (Some p) ≡ true
    itself p = and_from _ _ (eq-eqb (cell_of p).row (cell_of p).row refl) (eq-eqb (cell_of p).column (cell_of p).column refl)

    there : (x : Key) → x.kind ≡ Node → (o : Option Position) → position F x ≡ o → option_map_or (area_holds a) o false ≡ true → lists_id near x.id ≡ true
    there x node None at inside = cc
    there x node (Some p) at inside =
        let c = cell_of p in
        let lain : ever (λ held. lies c (option_and_then position_in held)) E x ≡ true
        = past-ever (λ held. lies c (option_and_then position_in held)) t E x refl (ap (lies c) at ∙ itself p) in
        let lain_here : has_lain E c x.id ≡ true = sym (ap (λ (kind : Kind). ever (λ held. lies c (option_and_then position_in held)) E (key kind x.id)) node) ∙ lain in
        all c x.id (touched a p is inside) (placed E g c x.id ever_there lain_here)

pub near-rising : (near : List ℕ) → IsStrictlyIncreasing near → IsRising (map (key Node) near)
near-rising near up = nodes-rising near (AllPairs-from_increasing near up)

-- -- users

-- one of some keys passes, if it is that key
one-in : (among : List Key) (y : Key) (g : Key → Bool) → lists_key among y ≡ true → g y ≡ true → list_any g among ≡ true
one-in [] y g there passes = cc
one-in (b ∷ bs) y g there passes =
    ⊎_elim
    (λ here. or-left (g b) (list_any g bs) (ap g (key_eq-same b y here) ∙ passes))
    (λ later. or-right (g b) (list_any g bs) (one-in bs y g later passes))
    (or_cases (key_eq b y) (lists_key bs y) there)

met :
    (refs among : List Key) (g : Key → Bool)
    → ((y : Key) → lists_key refs y ≡ true → g y ≡ true)
    → list_any (λ y. lists_key among y) refs ≡ true
    → list_any g among ≡ true
met [] among g each some = cc
met (y ∷ ys) among g each some =
    ⊎_elim
    (λ here. one-in among y g here (each y (or-left (key_eq y y) (lists_key ys y) (key_eq-refl y))))
    (λ later. met ys among g (λ b there. each b (or-right (key_eq y b) (lists_key ys b) there)) later)
    (or_cases (lists_key among y) (list_any (λ y. lists_key among y) ys) some)

-- none is a candidate of another kind
no-candidate : (E : Elements) (kind : Kind) (x : Key) (among : List Key) → kind_eq x.kind kind ≡ false → list_any (λ b. is_candidate E kind b x) among ≡ false
no-candidate E kind x [] other = refl
no-candidate E kind x (b ∷ bs) other = ap (λ (p : Bool). (p && (key_eq b x || has_used E x b)) || list_any (λ b. is_candidate E kind b x) bs) other ∙ no-candidate E kind x bs other

-- the users of some keys, among their candidates
pub users-found :
    (t : ℕ) (E : Elements) (kind : Kind) (among near : List Key)
    → IsRising near
    → ((x : Key) → lists_key near x ≡ list_any (λ b. is_candidate E kind b x) among)
    → filter (λ k. is_last_shown (elements_by t E) k && lists_one (elements_by t E) among k) near ≡ users_among (elements_by t E) kind among
users-found t E kind among near up each =
    kind-filter-are F kind (lists_one F among) near up
    (λ x shown lists. each x ∙ ⊎_elim
    (λ yes. met (refs_of F x) among (λ b. is_candidate E kind b x) (λ b there. ap (λ (p : Bool). p && (key_eq b x || has_used E x b)) yes ∙ candidate x b there) lists ∙ sym yes)
    (λ no. no-candidate E kind x among no ∙ sym no)
    (cases_Bool (kind_eq x.kind kind)))
  where
    F : Elements
    F = elements_by t E

    candidate : (x b : Key) → lists_key (refs_of F x) b ≡ true → key_eq b x || has_used E x b ≡ true
    candidate x b there =
        ⊎_elim
        (λ same. or-left (key_eq b x) (has_used E x b) same)
        (λ other. or-right (key_eq b x) (has_used E x b)
        (ap (λ (p : Bool). p && not (key_eq x b)) (past-ever (λ held. lists_key (refs_in held) b) t E x refl there)
        ∙ ap (λ (p : Bool). not p) (key_eq-sym x b ∙ other)))
        (cases_Bool (key_eq b x))

-- -- gathering candidates

pub same-kind : (kind : Kind) (k x : Key) → kind_eq k.kind kind && key_eq k x ≡ kind_eq x.kind kind && key_eq k x
same-kind kind k x =
    ⊎_elim
    (λ t. ap (λ (y : Key). kind_eq y.kind kind && key_eq k x) (key_eq-same k x t))
    (λ f. ap (λ (b : Bool). kind_eq k.kind kind && b) f ∙ and-false (kind_eq k.kind kind) ∙ sym (ap (λ (b : Bool). kind_eq x.kind kind && b) f ∙ and-false (kind_eq x.kind kind)))
    (cases_Bool (key_eq k x))
  where
    and-false : (b : Bool) → b && false ≡ false
    and-false true = refl
    and-false false = refl

of-kind : (kind : Kind) (ks : List Key) (x : Key) → list_any (λ k. kind_eq k.kind kind && key_eq k x) ks ≡ kind_eq x.kind kind && lists_key ks x
of-kind kind [] x = sym (and-false (kind_eq x.kind kind))
  where
    and-false : (b : Bool) → b && false ≡ false
    and-false true = refl
    and-false false = refl
of-kind kind (k ∷ ks) x =
    ap (λ (b : Bool). b || list_any (λ k. kind_eq k.kind kind && key_eq k x) ks) (same-kind kind k x)
    ∙ ap (λ (b : Bool). (kind_eq x.kind kind && key_eq k x) || b) (of-kind kind ks x)
    ∙ apart (kind_eq x.kind kind) (key_eq k x) (lists_key ks x)
  where
    apart : (p q r : Bool) → (p && q) || (p && r) ≡ p && (q || r)
    apart true q r = refl
    apart false q r = refl

-- who lists a key now listed it once
uses-used : (E : Elements) (a b : Key) → uses E a b ≡ true → has_used E a b ≡ true
uses-used E a b now = along (lists_key (refs_of E a) b) (not (key_eq a b)) (last-held (λ held. lists_key (refs_in held) b) (history E a) refl) now
  where
    along : (p q : Bool) → (p ≡ true → ever (λ held. lists_key (refs_in held) b) E a ≡ true) → p && q ≡ true → ever (λ held. lists_key (refs_in held) b) E a && q ≡ true
    along true q held both = ap (λ (p : Bool). p && q) (held refl) ∙ both
    along false q held both = cc

-- a key, those that list it, and those that did
pub candidates-added :
    (E : Elements) (kind : Kind) (used : Key) (users past was own between now : List Key)
    → ((x : Key) → lists_key users x ≡ uses E x used)
    → ((x : Key) → lists_key past x ≡ has_used E x used && not (uses E x used))
    → ((x : Key) → lists_key own x ≡ lists_key was x || (kind_eq used.kind kind && key_eq used x))
    → ((x : Key) → lists_key between x ≡ lists_key own x || list_any (λ k. kind_eq k.kind kind && key_eq k x) users)
    → ((x : Key) → lists_key now x ≡ lists_key between x || list_any (λ k. kind_eq k.kind kind && key_eq k x) past)
    → (x : Key)
    → lists_key now x ≡ lists_key was x || is_candidate E kind used x
candidates-added E kind used users past was own between now listed gone one more rest x =
    rest x
    ∙ ap (λ (b : Bool). b || list_any (λ k. kind_eq k.kind kind && key_eq k x) past) (more x)
    ∙ ap (λ (b : Bool). (lists_key own x || list_any (λ k. kind_eq k.kind kind && key_eq k x) users) || b) (of-kind kind past x ∙ ap (λ (b : Bool). kind_eq x.kind kind && b) (gone x))
    ∙ ap (λ (b : Bool). (lists_key own x || b) || (kind_eq x.kind kind && (has_used E x used && not (uses E x used)))) (of-kind kind users x ∙ ap (λ (b : Bool). kind_eq x.kind kind && b) (listed x))
    ∙ ap (λ (b : Bool). (b || (kind_eq x.kind kind && uses E x used)) || (kind_eq x.kind kind && (has_used E x used && not (uses E x used)))) (one x ∙ ap (λ (b : Bool). lists_key was x || b) (same-kind kind used x))
    ∙ grouped (lists_key was x) (kind_eq x.kind kind) (key_eq used x) (uses E x used) (has_used E x used) (uses-used E x used)
  where
    grouped : (w k u n h : Bool) → (n ≡ true → h ≡ true) → ((w || (k && u)) || (k && n)) || (k && (h && not n)) ≡ w || (k && (u || h))
    grouped true k u n h held = refl
    grouped false false u n h held = refl
    grouped false true true n h held = refl
    grouped false true false true h held = sym (held refl)
    grouped false true false false true held = refl
    grouped false true false false false held = refl

-- the candidates of one key more of a list
pub candidates-more :
    (E : Elements) (kind : Kind) (among first was now : List Key) (i : ℕ) (d : Key)
    → i < length among
    → ((x : Key) → lists_key was x ≡ lists_key first x || list_any (λ b. is_candidate E kind b x) (take i among))
    → ((x : Key) → lists_key now x ≡ lists_key was x || is_candidate E kind (get_or among i d) x)
    → (x : Key)
    → lists_key now x ≡ lists_key first x || list_any (λ b. is_candidate E kind b x) (take (i + 1) among)
candidates-more E kind among first was now i d within before one x =
    one x
    ∙ ap (λ (b : Bool). b || is_candidate E kind (get_or among i d) x) (before x)
    ∙ apart (lists_key first x) (list_any (λ b. is_candidate E kind b x) (take i among)) (is_candidate E kind (get_or among i d) x)
    ∙ ap (λ (b : Bool). lists_key first x || b) (sym (list_any_more (λ b. is_candidate E kind b x) among i d within))
  where
    apart : (p q r : Bool) → (p || q) || r ≡ p || (q || r)
    apart true q r = refl
    apart false q r = refl
