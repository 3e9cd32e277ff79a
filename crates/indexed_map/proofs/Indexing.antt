-- The indexes after an element has a version more, a mark, or room.
use Rattle.std.proofs.Common.{◌≡◌, ℕ, ◌<◌, ◌≤◌, Bool, true, false, ◌&&◌, ◌||◌, ⊎_elim, List, Option, refl, sym, ap, ◌∙◌, subst, arith}
use Rattle.std.specs.Prelude.{not, if◌then◌else◌, option_and_then}
use Rattle.std.specs.List.{list_any}
use Rattle.std.proofs.lemmas.Bool.{cases_Bool}
use Rattle.osm_base.specs.Key.{key_eq, lists_key}
use Rattle.osm_base.specs.declared.keys.Key.{Key}
use Rattle.osm_base.proofs.KeyOrder.{key_eq-same, key_eq-refl, key_eq-sym}
use Rattle.osm_element.specs.declared.contents.Content.{Content}
use Rattle.osm_element.specs.Version.{Version}
use Rattle.osm_element.specs.declared.elements.Elements.{Elements}
use Rattle.osm_element.specs.Elements.{next_id, content_of, refs_of, refs_in, uses, push_version, count, mark}
use Rattle.osm_element.proofs.Pushed.{content-push}
use Rattle.osm_element.proofs.Later.{content-mark, given_some}
use Rattle.osm_base.specs.Place.{Position}
use Rattle.osm_base.specs.declared.keys.Kind.TheVariants.{Node}
use Rattle.osm_element.specs.Elements.{key, position_in}
use Rattle.reverse_refs.specs.Users.{UserRows, users_in, past_in, free_in}
use Rattle.history_store.specs.Store.{free}
use Rattle.tile_grid.specs.declared.cells.Cell.{Cell}
use Rattle.tile_grid.specs.Grid.{times, times_ever, free_at, same_cell}
use Rattle.tile_grid.specs.Tile.{Held}
use Rattle.indexed_map.specs.Ever.{has_used, IsPlacedEver}
use Rattle.indexed_map.specs.Indexed.{Stand, Notes, IsBare, IsIndexed, IsListOf, IsMap, IsNoted}
use Rattle.indexed_map.specs.Placed.{lies, IsPlaced}
use Rattle.indexed_map.proofs.EverHeld.{used-mark}
use Rattle.indexed_map.proofs.Past.{past-push}

uses_in : Option (Content ℕ) → Key → Key → Bool
uses_in content a b = lists_key (refs_in content) b && not (key_eq a b)

pub indexed :
    (E : Elements) (u between new : UserRows) (k : Key) (v : Version) (listed : List Key)
    → 0 < k.id
    → k.id ≤ next_id E k.kind
    → IsIndexed E u
    → IsListOf v.content listed
    → ((a b : Key) → lists_key (users_in between b) a ≡ lists_key (users_in u b) a && not (lists_key (refs_of E k) b && (key_eq k a && not (lists_key listed b))))
    → ((a b : Key) → lists_key (users_in new b) a ≡ (lists_key listed b && (key_eq k a && not (key_eq k b))) || lists_key (users_in between b) a)
    → ((a b : Key) → lists_key (past_in between b) a ≡ lists_key (past_in u b) a || (lists_key (users_in u b) a && (lists_key (refs_of E k) b && (key_eq k a && not (lists_key listed b)))))
    → ((a b : Key) → lists_key (past_in new b) a ≡ lists_key (past_in between b) a && not (lists_key listed b && (key_eq k a && not (key_eq k b))))
    → IsIndexed (push_version E k v) new
indexed E u between new k v listed counted reached was list ends begins leaves returns = record {
  past = past-push E u between new k v listed counted reached was list leaves returns;
  holds = λ a b. begins a b
      ∙ ap (λ (p : Bool). (lists_key listed b && (key_eq k a && not (key_eq k b))) || p) (ends a b ∙ ap (λ (p : Bool). p && not (lists_key (refs_of E k) b && (key_eq k a && not (lists_key listed b)))) (was.holds a b))
      ∙ at a b;
}
  where
    own : (l o s : Bool) → ((l && (true && not s)) || ((o && not s) && not (o && (true && not l)))) ≡ l && not s
    own true true true = refl
    own true true false = refl
    own true false true = refl
    own true false false = refl
    own false true true = refl
    own false true false = refl
    own false false s = refl

    others : (l o n s : Bool) → ((l && (false && not s)) || (o && not (n && (false && not l)))) ≡ o
    others true true true s = refl
    others true true false s = refl
    others true false n s = refl
    others false true true s = refl
    others false true false s = refl
    others false false n s = refl

    at : (a b : Key) → ((lists_key listed b && (key_eq k a && not (key_eq k b))) || (uses E a b && not (lists_key (refs_of E k) b && (key_eq k a && not (lists_key listed b))))) ≡ uses (push_version E k v) a b
    at a b = ⊎_elim
        (λ t. let here : k ≡ a = key_eq-same k a t in
        let now : lists_key (refs_of (push_version E k v) k) b ≡ lists_key listed b
        = ap (λ (c : Option (Content ℕ)). lists_key (refs_in c) b) (content-push E k k v counted reached ∙ ap (λ (p : Bool). if p then v.content else content_of E k) (key_eq-refl k)) ∙ sym (list.same b) in
        ap (λ (x : Key). (lists_key listed b && (key_eq k x && not (key_eq k b))) || (uses E x b && not (lists_key (refs_of E k) b && (key_eq k x && not (lists_key listed b))))) (sym here)
        ∙ ap (λ (p : Bool). (lists_key listed b && (p && not (key_eq k b))) || (uses E k b && not (lists_key (refs_of E k) b && (p && not (lists_key listed b))))) (key_eq-refl k)
        ∙ own (lists_key listed b) (lists_key (refs_of E k) b) (key_eq k b)
        ∙ ap (λ (p : Bool). p && not (key_eq k b)) (sym now)
        ∙ ap (λ (x : Key). uses (push_version E k v) x b) here)
        (λ f. ap (λ (p : Bool). (lists_key listed b && (p && not (key_eq k b))) || (uses E a b && not (lists_key (refs_of E k) b && (p && not (lists_key listed b))))) f
        ∙ others (lists_key listed b) (uses E a b) (lists_key (refs_of E k) b) (key_eq k b)
        ∙ ap (λ (c : Option (Content ℕ)). lists_key (refs_in c) b && not (key_eq a b)) (sym (content-push E k a v counted reached ∙ ap (λ (p : Bool). if p then v.content else content_of E a) (key_eq-sym a k ∙ f))))
        (cases_Bool (key_eq k a))

-- marks leave the uses and the places
pub marked :
    (E : Elements) (u : UserRows) (k : Key) (n : ℕ) (m : Option ℕ)
    → 0 < n
    → n ≤ count E k
    → IsIndexed E u
    → IsIndexed (mark E k n m) u
marked E u k n m some made was =
    let given = given_some E k (omega (arith, some, made)) in
    record {
      holds = λ a b. was.holds a b ∙ ap (λ (c : Option (Content ℕ)). lists_key (refs_in c) b && not (key_eq a b)) (sym (content-mark E k a n m given.0 given.1));
      past = λ a b. was.past a b
          ∙ ap (λ (p : Bool). p && not (uses E a b)) (sym (used-mark E k a b n m some made))
          ∙ ap (λ (c : Option (Content ℕ)). has_used (mark E k n m) a b && not (lists_key (refs_in c) b && not (key_eq a b))) (sym (content-mark E k a n m given.0 given.1));
    }

pub marked_placed :
    (E : Elements) (g : List (List Held)) (k : Key) (n : ℕ) (m : Option ℕ)
    → 0 < n
    → n ≤ count E k
    → IsPlaced E g
    → IsPlaced (mark E k n m) g
marked_placed E g k n m some made was =
    let given = given_some E k (omega (arith, some, made)) in
    record {
      holds = λ c id. was.holds c id ∙ ap (λ (x : Option (Content ℕ)). if lies c (option_and_then position_in x) then 1 else 0) (sym (content-mark E k (key Node id) n m given.0 given.1));
    }

-- -- what is noted

-- more is promised, of what is noted
pub noting :
    (w v : Stand) (n m : Notes)
    → IsMap w n
    → v.elements ≡ w.elements
    → ((b : Key) → users_in v.users b ≡ users_in w.users b)
    → ((b : Key) → past_in v.users b ≡ past_in w.users b)
    → ((c : Cell) (id : ℕ) → times v.cells c id ≡ times w.cells c id)
    → ((c : Cell) (id : ℕ) → times_ever v.cells c id ≡ times_ever w.cells c id)
    → ((k : Key) → lists_key m.versions k ≡ false → (lists_key n.versions k ≡ false) × (free v.versions k ≡ free w.versions k))
    → ((b : Key) → lists_key m.users b ≡ false → (lists_key n.users b ≡ false) × (free_in v.users b ≡ free_in w.users b))
    → ((p : Position) → list_any (same_cell p) m.cells ≡ false → (list_any (same_cell p) n.cells ≡ false) × (free_at v.cells p ≡ free_at w.cells p))
    → IsMap v m
noting w v n m was same users past nodes nodes_ever versions awaited entered =
    let I : Elements → Type 0 = λ E. IsIndexed E v.users in
    let P : Elements → Type 0 = λ E. IsPlaced E v.cells in
    let Q : Elements → Type 0 = λ E. IsPlacedEver E v.cells in
    record {
      indexed = subst I (sym same) (record { holds = λ a b. ap (λ (ks : List Key). lists_key ks a) (users b) ∙ was.indexed.holds a b; past = λ a b. ap (λ (ks : List Key). lists_key ks a) (past b) ∙ was.indexed.past a b });
      placed = subst P (sym same) (record { holds = λ c id. nodes c id ∙ was.placed.holds c id });
      placed_ever = subst Q (sym same) (record { holds = λ c id. nodes_ever c id ∙ was.placed_ever.holds c id });
      noted = record {
        versions = λ k out. (versions k out).1 ∙ was.noted.versions k (versions k out).0;
        users = λ b out. (awaited b out).1 ∙ was.noted.users b (awaited b out).0;
        cells = λ p out. (entered p out).1 ∙ was.noted.cells p (entered p out).0;
      };
    }

-- all that is noted is taken back
pub emptied :
    (w v : Stand) (n m : Notes) (versions awaited : List Key) (places : List Position)
    → IsMap w n
    → versions ≡ n.versions
    → awaited ≡ n.users
    → places ≡ n.cells
    → v.elements ≡ w.elements
    → ((b : Key) → users_in v.users b ≡ users_in w.users b)
    → ((b : Key) → past_in v.users b ≡ past_in w.users b)
    → ((c : Cell) (id : ℕ) → times v.cells c id ≡ times w.cells c id)
    → ((k : Key) → free v.versions k ≡ (if lists_key versions k then 0 else free w.versions k))
    → ((b : Key) → free_in v.users b ≡ (if lists_key awaited b then 0 else free_in w.users b))
    → ((p : Position) → free_at v.cells p ≡ (if list_any (same_cell p) places then 0 else free_at w.cells p))
    → ((c : Cell) (id : ℕ) → times_ever v.cells c id ≡ times_ever w.cells c id)
    → IsBare v × IsMap v m
emptied w v n m versions awaited places was vs us cs same users past nodes no_versions no_users no_cells nodes_ever =
    let I : Elements → Type 0 = λ E. IsIndexed E v.users in
    let P : Elements → Type 0 = λ E. IsPlaced E v.cells in
    let Q : Elements → Type 0 = λ E. IsPlacedEver E v.cells in (
      record { versions = bare_versions; users = bare_users; cells = bare_cells },
      record {
        indexed = subst I (sym same) (record { holds = λ a b. ap (λ (ks : List Key). lists_key ks a) (users b) ∙ was.indexed.holds a b; past = λ a b. ap (λ (ks : List Key). lists_key ks a) (past b) ∙ was.indexed.past a b });
        placed = subst P (sym same) (record { holds = λ c id. nodes c id ∙ was.placed.holds c id });
        placed_ever = subst Q (sym same) (record { holds = λ c id. nodes_ever c id ∙ was.placed_ever.holds c id });
        noted = record { versions = λ k out. bare_versions k; users = λ b out. bare_users b; cells = λ p out. bare_cells p };
      },
    )
  where
    nothing : (b : Bool) (now before : ℕ) → now ≡ (if b then 0 else before) → (b ≡ false → before ≡ 0) → now ≡ 0
    nothing true now before e none = e
    nothing false now before e none = e ∙ none refl

    bare_versions : (k : Key) → free v.versions k ≡ 0
    bare_versions k = nothing (lists_key versions k) (free v.versions k) (free w.versions k) (no_versions k) (λ out. was.noted.versions k (ap (λ (l : List Key). lists_key l k) (sym vs) ∙ out))

    bare_users : (b : Key) → free_in v.users b ≡ 0
    bare_users b = nothing (lists_key awaited b) (free_in v.users b) (free_in w.users b) (no_users b) (λ out. was.noted.users b (ap (λ (l : List Key). lists_key l b) (sym us) ∙ out))

    bare_cells : (p : Position) → free_at v.cells p ≡ 0
    bare_cells p = nothing (list_any (same_cell p) places) (free_at v.cells p) (free_at w.cells p) (no_cells p) (λ out. was.noted.cells p (ap (λ (l : List Position). list_any (same_cell p) l) (sym cs) ∙ out))

-- promises are used
pub noted_less :
    (w v : Stand) (n : Notes)
    → IsNoted w n
    → ((k : Key) → free v.versions k ≤ free w.versions k)
    → ((b : Key) → free_in v.users b ≤ free_in w.users b)
    → ((p : Position) → free_at v.cells p ≤ free_at w.cells p)
    → IsNoted v n
noted_less w v n was versions users cells = record {
  versions = λ k out. nothing (free w.versions k) (free v.versions k) (was.versions k out) (versions k);
  users = λ b out. nothing (free_in w.users b) (free_in v.users b) (was.users b out) (users b);
  cells = λ p out. nothing (free_at w.cells p) (free_at v.cells p) (was.cells p out) (cells p);
}
  where
    nothing : (n m : ℕ) → n ≡ 0 → m ≤ n → m ≡ 0
    nothing n m e le = omega (arith, e, le)
