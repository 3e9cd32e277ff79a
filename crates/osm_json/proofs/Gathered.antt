-- Entries by their names: which list leads to the same, and how those in order do.
use Rattle.std.proofs.Common.{◌≡◌, ℕ, zero, suc, ◌+◌, ◌⊎◌, inl, inr, Bool, true, false, cond, not, ◌&&◌, T, List, [], ◌∷◌, ◌++◌, get_or, drop, map, Option, Some, None, refl, sym, ap, ◌∙◌, subst, arith, true≢false}
use Rattle.std.proofs.lemmas.Cmp.{nat_list_cmp_total}
use Rattle.std.proofs.lemmas.Map.Lookups.{exact_bytes}
use Rattle.std.specs.FinMap.Entries.{put, by_order, find, is_sorted, is_sorted-put, find-put, same_entries}
use Rattle.std.specs.List.{filter}
use Rattle.std.specs.List.Sorted.{IsSortedBy, IsStableBy, ties}
use Rattle.std.specs.Ordering.{is_lt, is_eq, eq_by_cmp, ordering_reverse}
use Rattle.std.specs.declared.cmp.Ordering.{Ordering}
use Rattle.std.specs.declared.cmp.Ordering.TheVariants.{Less, Equal, Greater}
use Rattle.osm_json.specs.Entries.{Entry, name_cmp, AreInOrder, gather}

-- ---- what lookups find

abbrev named : List ℕ → Entry → Bool
named name e = eq_by_cmp name_cmp name e.0

-- the text of the last, where there is one
abbrev last_text : List Entry → Option (Option (List ℕ)) → Option (Option (List ℕ))
last_text [] before = before
last_text (e ∷ es) before = last_text es (Some e.1)

find_one : (b : Bool) (e : Entry) (es : List Entry) (before : Option (Option (List ℕ))) → last_text es (cond b (Some e.1) before) ≡ last_text (cond b (e ∷ es) es) before
find_one true e es before = refl
find_one false e es before = refl

find-gather : (name : List ℕ) (found es : List Entry) → find name_cmp name (gather found es) ≡ last_text (filter (named name) es) (find name_cmp name found)
find-gather name found [] = refl
find-gather name found (e ∷ es) =
    find-gather name (put name_cmp e.0 e.1 found) es
    ∙ ap (last_text (filter (named name) es)) (find-put name_cmp nat_list_cmp_total name e.0 e.1 found)
    ∙ find_one (named name e) e (filter (named name) es) (find name_cmp name found)

is_sorted-gather : (found es : List Entry) → T (is_sorted name_cmp found) → T (is_sorted name_cmp (gather found es))
is_sorted-gather found [] h = h
is_sorted-gather found (e ∷ es) h = is_sorted-gather (put name_cmp e.0 e.1 found) es (is_sorted-put name_cmp nat_list_cmp_total e.0 e.1 found h)

-- the names that were gathered rise
pub gathered_rise : (es : List Entry) → T (is_sorted name_cmp (gather [] es))
gathered_rise es = is_sorted-gather [] es tt

gather_same : (es fs : List Entry) → ((name : List ℕ) → filter (named name) es ≡ filter (named name) fs) → gather [] es ≡ gather [] fs
gather_same es fs same =
    same_entries name_cmp nat_list_cmp_total exact_bytes (gather [] es) (gather [] fs) (gathered_rise es) (gathered_rise fs)
    (λ name. find-gather name [] es ∙ ap (λ (l : List Entry). last_text l None) (same name) ∙ sym (find-gather name [] fs))

-- ---- a stable sort by the names

module _ {P : Type 0} (f : P → Entry) where
  abbrev pub before : P → P → Bool
  before p q = is_lt (name_cmp (f p).0 (f q).0)

  filter-map : (test : Entry → Bool) (ps : List P) → filter test (map f ps) ≡ map f (filter (λ p. test (f p)) ps)
  filter-map test [] = refl
  filter-map test (p ∷ ps) =
      elim (test (f p)) as (λ b. cond b (f p ∷ filter test (map f ps)) (filter test (map f ps)) ≡ map f (cond b (p ∷ filter (λ p. test (f p)) ps) (filter (λ p. test (f p)) ps))) [
        | true ↦ ap (λ (l : List Entry). f p ∷ l) (filter-map test ps)
        | false ↦ filter-map test ps
      ]

  filter_alike : (a b : P → Bool) → ((p : P) → a p ≡ b p) → (ps : List P) → filter a ps ≡ filter b ps
  filter_alike a b alike [] = refl
  filter_alike a b alike (p ∷ ps) = λ i. cond (alike p i) (p ∷ filter_alike a b alike ps i) (filter_alike a b alike ps i)

  tie : (o : Ordering) → is_eq o ≡ not (is_lt o) && not (is_lt (ordering_reverse o))
  tie Less = refl
  tie Equal = refl
  tie Greater = refl

  equal : (o : Ordering) → is_eq o ≡ true → o ≡ Equal
  equal Less h = absurd (true≢false (sym h))
  equal Equal h = refl
  equal Greater h = absurd (true≢false (sym h))

  -- where x has the name, those of the name are those that tie with x
  named_ties : (name : List ℕ) (x : P) → named name (f x) ≡ true → (p : P) → named name (f p) ≡ ties before x p
  named_ties name x h p =
      ap is_eq (nat_list_cmp_total.congr name (f x).0 (f p).0 (equal _ h))
      ∙ tie (name_cmp (f x).0 (f p).0)
      ∙ ap (λ (o : Ordering). not (before x p) && not (is_lt o)) (sym (nat_list_cmp_total.antisymm (f p).0 (f x).0))

  some_passes : (test : P → Bool) (ps : List P) → ((x : P) × (test x ≡ true)) ⊎ (filter test ps ≡ [])
  some_passes test [] = inr refl
  some_passes test (p ∷ ps) =
      elim (test p) as (λ b. test p ≡ b → ((x : P) × (test x ≡ true)) ⊎ (cond b (p ∷ filter test ps) (filter test ps) ≡ [])) [
        | true ↦ λ e. inl (p, e)
        | false ↦ λ e. some_passes test ps
      ] refl

  module _ (ps qs : List P) (stable : IsStableBy before ps qs) where
    by_one : (name : List ℕ) (x : P) → named name (f x) ≡ true → filter (λ p. named name (f p)) qs ≡ filter (λ p. named name (f p)) ps
    by_one name x h =
        let alike = named_ties name x h in
        filter_alike _ _ alike qs ∙ stable x ∙ sym (filter_alike _ _ alike ps)

    same_named : (name : List ℕ) → filter (λ p. named name (f p)) qs ≡ filter (λ p. named name (f p)) ps
    same_named name =
        elim (some_passes (λ p. named name (f p)) qs) [
          | inl x ↦ by_one name x.0 x.1
          | inr none ↦ elim (some_passes (λ p. named name (f p)) ps) [
            | inl x ↦ by_one name x.0 x.1
            | inr others ↦ none ∙ sym others
          ]
        ]

    pub gather_sorted : gather [] (map f qs) ≡ gather [] (map f ps)
    gather_sorted = gather_same (map f qs) (map f ps) (λ name. filter-map (named name) qs ∙ ap (map f) (same_named name) ∙ sym (filter-map (named name) ps))

  pub in_order : (ps : List P) → IsSortedBy before ps → AreInOrder (map f ps)
  in_order [] s = tt
  in_order (p ∷ []) s = tt
  in_order (p ∷ q ∷ ps) s = (
    s 0 p (omega arith) (omega arith),
    in_order (q ∷ ps) (λ k d low high.
        let next : suc k + 1 ≡ suc (k + 1) = omega arith in
        subst (λ (n : ℕ). before (get_or (p ∷ q ∷ ps) n d) (get_or (q ∷ ps) k d) ≡ false) next (s (suc k) d (omega arith) (omega arith))),
  )

-- ---- entries in order, one after the other

pub order_after : (i : ℕ) (es : List Entry) → AreInOrder es → AreInOrder (drop i es)
order_after zero es h = h
order_after (suc i) [] h = tt
order_after (suc i) (e ∷ []) h = order_after i [] tt
order_after (suc i) (e ∷ f ∷ es) h = order_after i (f ∷ es) h.1

put_same : (e f : Entry) (o : Ordering) → name_cmp f.0 e.0 ≡ Equal → o ≡ Equal → by_order o (f ∷ e ∷ []) ((e.0, f.1) ∷ []) (e ∷ f ∷ []) ≡ f ∷ []
put_same e f o same is = ap (λ (o : Ordering). by_order o (f ∷ e ∷ []) ((e.0, f.1) ∷ []) (e ∷ f ∷ [])) is ∙ ap (λ (name : List ℕ). (name, f.1) ∷ []) (sym (exact_bytes f.0 e.0 same))

-- of two of one name the first plays no part
pub gather_again : (e f : Entry) (es : List Entry) → name_cmp f.0 e.0 ≡ Equal → gather [] (e ∷ f ∷ es) ≡ gather [] (f ∷ es)
gather_again e f es h = ap (λ (found : List Entry). gather found es) (put_same e f (name_cmp f.0 e.0) h h)

abbrev AllBehind : Entry → List Entry → Type 0
AllBehind e [] = Unit {0}
AllBehind e (f ∷ es) = (name_cmp f.0 e.0 ≡ Greater) × AllBehind e es

gather_behind : (e : Entry) (found es : List Entry) → AllBehind e es → gather (e ∷ found) es ≡ e ∷ gather found es
gather_behind e found [] h = refl
gather_behind e found (f ∷ es) h =
    ap (λ (o : Ordering). gather (by_order o (f ∷ e ∷ found) ((e.0, f.1) ∷ found) (e ∷ put name_cmp f.0 f.1 found)) es) h.0
    ∙ gather_behind e (put name_cmp f.0 f.1 found) es h.1

-- what stands behind e, stands behind what is before e
less_far : (e f g : List ℕ) (o : Ordering) → name_cmp f g ≡ o → name_cmp e f ≡ Less → is_lt (name_cmp g f) ≡ false → name_cmp e g ≡ Less
less_far e f g Less is h later = nat_list_cmp_total.trans e f g h is
less_far e f g Equal is h later = ap (name_cmp e) (sym (exact_bytes f g is)) ∙ h
less_far e f g Greater is h later = absurd (true≢false (sym (ap is_lt (nat_list_cmp_total.antisymm g f ∙ ap ordering_reverse is)) ∙ later))

all_behind : (e f : Entry) (es : List Entry) → name_cmp e.0 f.0 ≡ Less → AreInOrder (f ∷ es) → AllBehind e (f ∷ es)
all_behind e f [] h s = (nat_list_cmp_total.antisymm f.0 e.0 ∙ ap ordering_reverse h, tt)
all_behind e f (g ∷ es) h s = (nat_list_cmp_total.antisymm f.0 e.0 ∙ ap ordering_reverse h, all_behind e g es (less_far e.0 f.0 g.0 (name_cmp f.0 g.0) refl h s.0) s.1)

-- the last of its name stays in front of the others
pub gather_next : (e f : Entry) (es : List Entry) → name_cmp e.0 f.0 ≡ Less → AreInOrder (f ∷ es) → gather [] (e ∷ f ∷ es) ≡ e ∷ gather [] (f ∷ es)
gather_next e f es h s = gather_behind e [] (f ∷ es) (all_behind e f es h s)

-- one more at the end
pub gather_push : (found es : List Entry) (e : Entry) → gather found (es ++ e ∷ []) ≡ put name_cmp e.0 e.1 (gather found es)
gather_push found [] e = refl
gather_push found (f ∷ es) e = gather_push (put name_cmp f.0 f.1 found) es e
