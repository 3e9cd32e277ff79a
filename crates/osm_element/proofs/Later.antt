-- What a new version, and a mark, leave of the elements.
use Rattle.std.proofs.Common.{◌≡◌, ℕ, zero, suc, ◌+◌, ◌-◌, ◌<◌, ◌≤◌, Bool, true, false, ◌&&◌, ⊎_elim, List, [], ◌∷◌, ◌++◌, length, map, length-append, get_or, Option, Some, None, refl, sym, ap, ◌∙◌, subst, append_assoc, arith}
use Rattle.std.specs.Prelude.{slice_get, slice_set, is_some, option_and_then, ◌==◌, if◌then◌else◌}
use Rattle.std.specs.Option.{option_map_or}
use Rattle.std.proofs.lemmas.Bool.{eqb-true, cases_Bool}
use Rattle.std.proofs.lemmas.Bool.Decides.{nat_tests}
use Rattle.std.proofs.lemmas.List.{get_or-set_same, get_or-set_other}
use Rattle.osm_base.specs.Key.{kind_eq, key_eq, lists_key}
use Rattle.osm_base.specs.declared.keys.Kind.{Kind}
use Rattle.osm_base.specs.declared.keys.Key.{Key}
use Rattle.osm_base.proofs.KeyOrder.{kind_eq-same, key_eq-same}
use Rattle.osm_element.specs.declared.contents.Content.{Content}
use Rattle.osm_element.specs.Version.{Version}
use Rattle.osm_element.specs.declared.elements.Elements.{Elements}
use Rattle.osm_element.specs.Elements.{histories, next_id, history_in, history, count, version_in, content_of, refs_in, add_version, push_version, mark_in, mark, IsConsistent}
use Rattle.osm_element.proofs.Used.{known}
use Rattle.osm_element.proofs.Pushed.{histories-with, history-push, last_content}
use Rattle.std.proofs.lemmas.Option.{get_or_from_slice_get}
use Rattle.osm_element.specs.Later.{contents, IsBegun, IsLater, Keeps}

-- -- orders

pub later-refl : (E : Elements) → IsLater E E
later-refl E = record { grown = λ kind. omega arith; kept = λ k. ([], sym (append_nil (contents E k))) }
  where
    append_nil : {X : Type 0} (xs : List X) → xs ++ [] ≡ xs
    append_nil [] = refl
    append_nil {X = X} (x ∷ xs) = ap (λ (l : List X). x ∷ l) (append_nil xs)

pub later-trans : (E F G : Elements) → IsLater E F → IsLater F G → IsLater E G
later-trans E F G first second = record {
  grown = λ kind. omega (arith, first.grown kind, second.grown kind);
  kept = λ k. let a = first.kept k in let b = second.kept k in (
    a.0 ++ b.0,
    b.1 ∙ ap (λ (l : List (Option (Content ℕ))). l ++ b.0) a.1 ∙ append_assoc (contents E k) a.0 b.0,
  );
}

-- -- a new version

length-set : {X : Type 0} (xs : List X) (i : ℕ) (x : X) → length (slice_set xs i x) ≡ length xs
length-set [] i x = refl
length-set (y ∷ ys) zero x = refl
length-set (y ∷ ys) (suc i) x = ap suc (length-set ys i x)

length-add : (hs : List (List Version)) (place : ℕ) (v : Version)
    → length (add_version hs place v) ≡ if place == length hs then length hs + 1 else length hs
length-add hs place v = along (place == length hs)
  where
    along : (b : Bool) → length (if b then hs ++ (v ∷ []) ∷ [] else slice_set hs place (get_or hs place [] ++ v ∷ [])) ≡ if b then length hs + 1 else length hs
    along true = length-append hs ((v ∷ []) ∷ [])
    along false = length-set hs place (get_or hs place [] ++ v ∷ [])

-- the ids that are given after a version of an element was made
pub next-push :
    (E : Elements) (k : Key) (v : Version) (kind : Kind)
    → 0 < k.id
    → next_id (push_version E k v) kind ≡ if kind_eq kind k.kind then (if k.id == next_id E k.kind then next_id E kind + 1 else next_id E kind) else next_id E kind
next-push E k v kind counted =
    ap (λ (hs : List (List Version)). length hs + 1) (histories-with E k.kind kind (add_version (histories E k.kind) (k.id - 1) v))
    ∙ ⊎_elim
    (λ t. let same : kind ≡ k.kind = kind_eq-same kind k.kind t in
    ap (λ (b : Bool). length (if b then add_version (histories E k.kind) (k.id - 1) v else histories E kind) + 1) t
    ∙ ap (λ (n : ℕ). n + 1) (length-add (histories E k.kind) (k.id - 1) v)
    ∙ ap (λ (b : Bool). (if b then length (histories E k.kind) + 1 else length (histories E k.kind)) + 1) (tests k.id (length (histories E k.kind)) counted)
    ∙ out (k.id == next_id E k.kind) (length (histories E k.kind))
    ∙ ap (λ (other : Kind). if k.id == next_id E k.kind then next_id E other + 1 else next_id E other) (sym same)
    ∙ ap (λ (b : Bool). if b then (if k.id == next_id E k.kind then next_id E kind + 1 else next_id E kind) else next_id E kind) (sym t))
    (λ f. ap (λ (b : Bool). length (if b then add_version (histories E k.kind) (k.id - 1) v else histories E kind) + 1) f
    ∙ ap (λ (b : Bool). if b then (if k.id == next_id E k.kind then next_id E kind + 1 else next_id E kind) else next_id E kind) (sym f))
    (cases_Bool (kind_eq kind k.kind))
  where
    tests : (id n : ℕ) → 0 < id → (id - 1 == n) ≡ (id == n + 1)
    tests id n counted = grind (arith, nat_tests)

    out : (b : Bool) (n : ℕ) → (if b then n + 1 else n) + 1 ≡ if b then (n + 1) + 1 else (n + 1)
    out true n = refl
    out false n = refl

next-grows : (E : Elements) (k : Key) (v : Version) (kind : Kind) → 0 < k.id → next_id E kind ≤ next_id (push_version E k v) kind
next-grows E k v kind counted = larger (kind_eq kind k.kind) (k.id == next_id E k.kind) (next_id E kind) (next_id (push_version E k v) kind) (next-push E k v kind counted)
  where
    larger : (p q : Bool) (n m : ℕ) → m ≡ (if p then (if q then n + 1 else n) else n) → n ≤ m
    larger true true n m e = omega (arith, e)
    larger true false n m e = omega (arith, e)
    larger false q n m e = omega (arith, e)

map-push : (vs : List Version) (v : Version) → map (λ (v : Version). v.content) (vs ++ v ∷ []) ≡ map (λ (v : Version). v.content) vs ++ v.content ∷ []
map-push [] v = refl
map-push (w ∷ vs) v = ap (λ (l : List (Option (Content ℕ))). w.content ∷ l) (map-push vs v)

pub later-push :
    (E : Elements) (k : Key) (v : Version)
    → 0 < k.id
    → k.id ≤ next_id E k.kind
    → IsLater E (push_version E k v)
later-push E k v counted reached = record {
  grown = λ kind. next-grows E k v kind counted;
  kept = λ a. ⊎_elim
      (λ t. (
        v.content ∷ [],
        ap (map (λ (v : Version). v.content)) (history-push E k a v counted reached)
            ∙ ap (λ (b : Bool). map (λ (v : Version). v.content) (if b then history E k ++ v ∷ [] else history E a)) t
            ∙ map-push (history E k) v
            ∙ ap (λ (x : Key). contents E x ++ v.content ∷ []) (sym (key_eq-same a k t)),
      ))
      (λ f. (
        ((later-refl E).kept a).0,
        ap (map (λ (v : Version). v.content)) (history-push E k a v counted reached)
            ∙ ap (λ (b : Bool). map (λ (v : Version). v.content) (if b then history E k ++ v ∷ [] else history E a)) f
            ∙ ((later-refl E).kept a).1,
      ))
      (cases_Bool (key_eq a k));
}

pub begun-push :
    (E : Elements) (k : Key) (v : Version)
    → 0 < k.id
    → k.id ≤ next_id E k.kind
    → IsBegun E
    → IsBegun (push_version E k v)
begun-push E k v counted reached begun = record {
  begun = λ a some below. ⊎_elim
      (λ t. let now : count (push_version E k v) a ≡ count E k + 1 =
      ap length (history-push E k a v counted reached)
      ∙ ap (λ (b : Bool). length (if b then history E k ++ v ∷ [] else history E a)) t
      ∙ length-append (history E k) (v ∷ [])
      in
      omega (arith, now))
      (λ f. let now : count (push_version E k v) a ≡ count E a =
      ap length (history-push E k a v counted reached)
      ∙ ap (λ (b : Bool). length (if b then history E k ++ v ∷ [] else history E a)) f
      in
      let was : 0 < count E a = begun.begun a some (earlier E k a v counted f below) in
      omega (arith, now, was))
      (cases_Bool (key_eq a k));
}
  where
    -- another id was given before
    numbers : (p q : Bool) (a k n m : ℕ) → (q ≡ (k == n)) → (p && (a == k)) ≡ false → m ≡ (if p then (if q then n + 1 else n) else n) → a < m → a < n
    numbers true q a k n m test f e below = grind (arith, nat_tests)
    numbers false q a k n m test f e below = omega (arith, e, below)

    earlier : (E : Elements) (k a : Key) (v : Version) → 0 < k.id → key_eq a k ≡ false → a.id < next_id (push_version E k v) a.kind → a.id < next_id E a.kind
    earlier E k a v counted f below = ⊎_elim
        (λ t. let same : a.kind ≡ k.kind = kind_eq-same a.kind k.kind t in
        numbers (kind_eq a.kind k.kind) (k.id == next_id E k.kind) a.id k.id (next_id E a.kind) (next_id (push_version E k v) a.kind)
        (ap (λ (kind : Kind). k.id == next_id E kind) (sym same))
        f
        (next-push E k v a.kind counted)
        below)
        (λ n. let still : next_id (push_version E k v) a.kind ≡ next_id E a.kind =
        next-push E k v a.kind counted ∙ ap (λ (b : Bool). if b then (if k.id == next_id E k.kind then next_id E a.kind + 1 else next_id E a.kind) else next_id E a.kind) n
        in
        omega (arith, still, below))
        (cases_Bool (kind_eq a.kind k.kind))

-- -- a mark

content-set :
    (vs : List Version) (i j : ℕ) (w v : Version)
    → slice_get vs i ≡ Some v
    → w.content ≡ v.content
    → option_and_then (λ v. v.content) (slice_get (slice_set vs i w) j) ≡ option_and_then (λ v. v.content) (slice_get vs j)
content-set [] i j w v there same = refl
content-set (x ∷ xs) zero zero w v there same = let e : v ≡ x = cc in same ∙ ap (λ (v : Version). v.content) e
content-set (x ∷ xs) zero (suc j) w v there same = refl
content-set (x ∷ xs) (suc i) zero w v there same = refl
content-set (x ∷ xs) (suc i) (suc j) w v there same = content-set xs i j w v there same

contents-set :
    (vs : List Version) (i : ℕ) (w v : Version)
    → slice_get vs i ≡ Some v
    → w.content ≡ v.content
    → map (λ (v : Version). v.content) (slice_set vs i w) ≡ map (λ (v : Version). v.content) vs
contents-set [] i w v there same = refl
contents-set (x ∷ xs) zero w v there same =
    let e : v ≡ x = cc in ap (λ (c : Option (Content ℕ)). c ∷ map (λ (v : Version). v.content) xs) (same ∙ ap (λ (v : Version). v.content) e)
contents-set (x ∷ xs) (suc i) w v there same = ap (λ (l : List (Option (Content ℕ))). x.content ∷ l) (contents-set xs i w v there same)

-- a list with one version replaced by one with the same content, or the list itself
record Alike (vs ws : List Version) : Type 0 where
  long : length ws ≡ length vs
  each : (j : ℕ) → option_and_then (λ v. v.content) (slice_get ws j) ≡ option_and_then (λ v. v.content) (slice_get vs j)
  whole : map (λ (v : Version). v.content) ws ≡ map (λ (v : Version). v.content) vs

alike-mark : (vs : List Version) (n : ℕ) (m : Option ℕ) → Alike vs (mark_in vs n m)
alike-mark vs n m = by (version_in vs n) (λ v e. found v e)
  where
    by : (o : Option Version) → ((v : Version) → o ≡ Some v → slice_get vs (n - 1) ≡ Some v) → Alike vs (option_map_or (λ v. slice_set vs (n - 1) (record v { redaction = m })) o vs)
    by None there = record { long = refl; each = λ j. refl; whole = refl }
    by (Some v) there = record {
      long = length-set vs (n - 1) (record v { redaction = m });
      each = λ j. content-set vs (n - 1) j (record v { redaction = m }) v (there v refl) refl;
      whole = contents-set vs (n - 1) (record v { redaction = m }) v (there v refl) refl;
    }

    none : (v : Version) → ◌≡◌ {A = Option Version} None (Some v) → ⊥
    none v e = cc

    found : (v : Version) → version_in vs n ≡ Some v → slice_get vs (n - 1) ≡ Some v
    found v e = ⊎_elim
        (λ t. absurd (none v (sym (ap (λ (b : Bool). if b then None else slice_get vs (n - 1)) t) ∙ e)))
        (λ f. sym (ap (λ (b : Bool). if b then None else slice_get vs (n - 1)) f) ∙ e)
        (cases_Bool (n == 0))

alike-last : (vs ws : List Version) → Alike vs ws → last_content ws ≡ last_content vs
alike-last vs ws same =
    ap (λ (n : ℕ). option_and_then (λ (v : Version). v.content) (if n == 0 then None else slice_get ws (n - 1))) same.long
    ∙ along (length vs == 0)
  where
    along : (b : Bool)
        → option_and_then (λ (v : Version). v.content) (if b then None else slice_get ws (length vs - 1)) ≡ option_and_then (λ (v : Version). v.content) (if b then None else slice_get vs (length vs - 1))
    along true = refl
    along false = same.each (length vs - 1)

history_in-set :
    (hs : List (List Version)) (id : ℕ) (vs : List Version) (a : ℕ)
    → 0 < id
    → id ≤ length hs
    → history_in (slice_set hs (id - 1) vs) a ≡ if a == id then vs else history_in hs a
history_in-set hs id vs a counted within =
    ⊎_elim
    (λ t. let other : (a == id) ≡ false = grind (arith, nat_tests) in
    ap (λ (b : Bool). if b then [] else get_or (slice_set hs (id - 1) vs) (a - 1) []) t
    ∙ sym (ap (λ (b : Bool). if b then [] else get_or hs (a - 1) []) t)
    ∙ ap (λ (b : Bool). if b then vs else history_in hs a) (sym other))
    (λ f. ⊎_elim
    (λ same. ap (λ (b : Bool). if b then [] else get_or (slice_set hs (id - 1) vs) (a - 1) []) f
    ∙ ap (λ (n : ℕ). get_or (slice_set hs (id - 1) vs) (n - 1) []) (eqb-true a id same)
    ∙ get_or-set_same hs (id - 1) vs [] (omega (arith, counted, within))
    ∙ ap (λ (b : Bool). if b then vs else history_in hs a) (sym same))
    (λ unlike. ap (λ (b : Bool). if b then [] else get_or (slice_set hs (id - 1) vs) (a - 1) []) f
    ∙ get_or-set_other hs (id - 1) (a - 1) vs [] (apart a id f counted unlike)
    ∙ sym (ap (λ (b : Bool). if b then [] else get_or hs (a - 1) []) f)
    ∙ ap (λ (b : Bool). if b then vs else history_in hs a) (sym unlike))
    (cases_Bool (a == id)))
    (cases_Bool (a == 0))
  where
    apart : (a id : ℕ) → (a == 0) ≡ false → 0 < id → (a == id) ≡ false → a - 1 ≡ id - 1 → ⊥
    apart a id f counted unlike e = grind (arith, nat_tests)

pub history-mark :
    (E : Elements) (k a : Key) (n : ℕ) (m : Option ℕ)
    → 0 < k.id
    → k.id ≤ length (histories E k.kind)
    → history (mark E k n m) a ≡ if key_eq a k then mark_in (history E k) n m else history E a
history-mark E k a n m counted within =
    let hs = slice_set (histories E k.kind) (k.id - 1) (mark_in (history E k) n m) in
    ap (λ (l : List (List Version)). history_in l a.id) (histories-with E k.kind a.kind hs)
    ∙ ⊎_elim
    (λ t. let kinds : a.kind ≡ k.kind = kind_eq-same a.kind k.kind t in
    ap (λ (b : Bool). history_in (if b then hs else histories E a.kind) a.id) t
    ∙ history_in-set (histories E k.kind) k.id (mark_in (history E k) n m) a.id counted within
    ∙ ap (λ (c : Kind). if a.id == k.id then mark_in (history E k) n m else history_in (histories E c) a.id) (sym kinds)
    ∙ ap (λ (b : Bool). if b && (a.id == k.id) then mark_in (history E k) n m else history E a) (sym t))
    (λ f. ap (λ (b : Bool). history_in (if b then hs else histories E a.kind) a.id) f
    ∙ ap (λ (b : Bool). if b && (a.id == k.id) then mark_in (history E k) n m else history E a) (sym f))
    (cases_Bool (kind_eq a.kind k.kind))

-- every history holds the same after a mark
alike-marked :
    (E : Elements) (k a : Key) (n : ℕ) (m : Option ℕ)
    → 0 < k.id
    → k.id ≤ length (histories E k.kind)
    → Alike (history E a) (history (mark E k n m) a)
alike-marked E k a n m counted within =
    ⊎_elim
    (λ t. subst (λ (vs : List Version). Alike (history E a) vs)
    (sym (history-mark E k a n m counted within ∙ ap (λ (b : Bool). if b then mark_in (history E k) n m else history E a) t))
    (subst (λ (x : Key). Alike (history E x) (mark_in (history E k) n m)) (sym (key_eq-same a k t)) (alike-mark (history E k) n m)))
    (λ f. subst (λ (vs : List Version). Alike (history E a) vs)
    (sym (history-mark E k a n m counted within ∙ ap (λ (b : Bool). if b then mark_in (history E k) n m else history E a) f))
    (record { long = refl; each = λ j. refl; whole = refl }))
    (cases_Bool (key_eq a k))

pub content-mark :
    (E : Elements) (k a : Key) (n : ℕ) (m : Option ℕ)
    → 0 < k.id
    → k.id ≤ length (histories E k.kind)
    → content_of (mark E k n m) a ≡ content_of E a
content-mark E k a n m counted within = alike-last (history E a) (history (mark E k n m) a) (alike-marked E k a n m counted within)

pub next-mark : (E : Elements) (k : Key) (n : ℕ) (m : Option ℕ) (kind : Kind) → next_id (mark E k n m) kind ≡ next_id E kind
next-mark E k n m kind =
    ap (λ (hs : List (List Version)). length hs + 1) (histories-with E k.kind kind (slice_set (histories E k.kind) (k.id - 1) (mark_in (history E k) n m)))
    ∙ ⊎_elim
    (λ t. ap (λ (b : Bool). length (if b then slice_set (histories E k.kind) (k.id - 1) (mark_in (history E k) n m) else histories E kind) + 1) t
    ∙ ap (λ (l : ℕ). l + 1) (length-set (histories E k.kind) (k.id - 1) (mark_in (history E k) n m))
    ∙ ap (λ (other : Kind). next_id E other) (sym (kind_eq-same kind k.kind t)))
    (λ f. ap (λ (b : Bool). length (if b then slice_set (histories E k.kind) (k.id - 1) (mark_in (history E k) n m) else histories E kind) + 1) f)
    (cases_Bool (kind_eq kind k.kind))

pub later-mark :
    (E : Elements) (k : Key) (n : ℕ) (m : Option ℕ)
    → 0 < k.id
    → k.id ≤ length (histories E k.kind)
    → IsLater E (mark E k n m)
later-mark E k n m counted within = record {
  grown = λ kind. let same : next_id (mark E k n m) kind ≡ next_id E kind = next-mark E k n m kind in omega (arith, same);
  kept = λ a. (
    ((later-refl E).kept a).0,
    (alike-marked E k a n m counted within).whole ∙ ((later-refl E).kept a).1,
  );
}

pub begun-mark :
    (E : Elements) (k : Key) (n : ℕ) (m : Option ℕ)
    → 0 < k.id
    → k.id ≤ length (histories E k.kind)
    → IsBegun E
    → IsBegun (mark E k n m)
begun-mark E k n m counted within begun = record {
  begun = λ a some below. let same : next_id (mark E k n m) a.kind ≡ next_id E a.kind = next-mark E k n m a.kind in
      let long : count (mark E k n m) a ≡ count E a = (alike-marked E k a n m counted within).long in
      let was : 0 < count E a = begun.begun a some (omega (arith, same, below)) in
      omega (arith, long, was);
}

pub consistent-mark :
    (E : Elements) (k : Key) (n : ℕ) (m : Option ℕ)
    → 0 < k.id
    → k.id ≤ length (histories E k.kind)
    → IsConsistent E
    → IsConsistent (mark E k n m)
consistent-mark E k n m counted within consistent = record {
  seen = λ a b listed. ap is_some (content-mark E k b n m counted within)
      ∙ consistent.seen a b (sym (ap (λ (c : Option (Content ℕ)). lists_key (refs_in c) b) (content-mark E k a n m counted within)) ∙ listed);
}

-- -- all of it

pub keeps-refl : (E : Elements) → Keeps E E
keeps-refl E = record { later = later-refl E; consistent = λ before. before; begun = λ before. before }

pub keeps-mark :
    (E : Elements) (k : Key) (n : ℕ) (m : Option ℕ)
    → 0 < k.id
    → k.id ≤ length (histories E k.kind)
    → Keeps E (mark E k n m)
keeps-mark E k n m counted within = record {
  later = later-mark E k n m counted within;
  consistent = λ before. consistent-mark E k n m counted within before;
  begun = λ before. begun-mark E k n m counted within before;
}

-- an element that has a version has an id that is given
pub given-there : (E : Elements) (k : Key) → (count E k == 0) ≡ false → (0 < k.id) × (k.id ≤ length (histories E k.kind))
given-there E k some = ⊎_elim (λ none. absurd (contrary (count E k) (ap length none) some)) (λ there. there) (known E k)
  where
    contrary : (n : ℕ) → n ≡ 0 → (n == 0) ≡ false → ⊥
    contrary n e f = grind (arith, nat_tests)

nonzero : (n : ℕ) → 0 < n → (n == 0) ≡ false
nonzero n h = grind (arith, nat_tests)

pub given_some : (E : Elements) (k : Key) → 0 < count E k → (0 < k.id) × (k.id ≤ length (histories E k.kind))
given_some E k some = given-there E k (nonzero (count E k) some)

pub history_in_there : (hs : List (List Version)) (id : ℕ) → 0 < id → id ≤ length hs → (h : List Version) → slice_get hs (id - 1) ≡ Some h → h ≡ history_in hs id
history_in_there hs id counted within h found =
    sym (ap (λ (b : Bool). if b then [] else get_or hs (id - 1) []) (nonzero id counted) ∙ get_or_from_slice_get hs (id - 1) h [] found)

pub mark_of_is :
    (hs : List (List Version)) (id n : ℕ) (m : Option ℕ) (h : List Version)
    → 0 < id
    → id ≤ length hs
    → slice_get hs (id - 1) ≡ Some h
    → slice_set hs (id - 1) (mark_in h n m) ≡ slice_set hs (id - 1) (mark_in (history_in hs id) n m)
mark_of_is hs id n m h counted within found =
    ap (λ (vs : List Version). slice_set hs (id - 1) (mark_in vs n m)) (history_in_there hs id counted within h found)

pub mark_in_there :
    (vs : List Version) (n : ℕ) (m : Option ℕ) (v : Version)
    → 0 < n
    → slice_get vs (n - 1) ≡ Some v
    → slice_set vs (n - 1) (record v { redaction = m }) ≡ mark_in vs n m
mark_in_there vs n m v counted found =
    ap (λ (o : Option Version). option_map_or (λ v. slice_set vs (n - 1) (record v { redaction = m })) o vs)
    (sym (ap (λ (b : Bool). if b then None else slice_get vs (n - 1)) (nonzero n counted) ∙ found))
