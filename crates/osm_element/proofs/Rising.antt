-- Keys that rise, each before the next.
use Rattle.std.proofs.Common.{◌≡◌, ℕ, ◌+◌, ◌-◌, ◌<◌, ◌≤◌, false, List, [], ◌∷◌, ◌++◌, take, drop, length, map, sym, ap, ap₂, ◌∙◌, subst, arith, true≢false}
use Rattle.std.proofs.Math.ListN.{get_or}
use Rattle.std.specs.List.{AllAdjacentBelow, AllByRecursion}
use Rattle.std.specs.List.Sorted.{IsStrictlySortedBy}
use Rattle.std.specs.Ordering.{is_lt, nat_cmp}
use Rattle.std.specs.Cmp.Lexicographic.{slice_cmp}
use Rattle.std.specs.declared.cmp.Ordering.TheVariants.{Less}
use Rattle.std.proofs.lemmas.Cmp.{nat_list_cmp_total}
use Rattle.std.proofs.lemmas.List.{get_or-map, length-map, take-append-drop, take_more}
use Rattle.std.proofs.lemmas.Map.Keys.{sorted_from_all_adjacent, Less-from_sorted}
use Rattle.osm_element.specs.Tags.{Tag, KeysRise}

abbrev pub key_of : Tag → List ℕ
key_of tag = tag.0

abbrev pub no_tag : Tag
no_tag = ([], [])

abbrev pub Rises : Tag → Tag → Type 0
Rises tag next = slice_cmp nat_cmp tag.0 next.0 ≡ Less

abbrev pub RiseBelow : List Tag → ℕ → Type 0
RiseBelow tags n = AllAdjacentBelow Rises tags n

key-at : (tags : List Tag) (k : ℕ) → k < length tags → get_or (map key_of tags) k [] ≡ key_of (get_or tags k no_tag)
key-at tags k lt = get_or-map key_of tags k no_tag [] lt

pub all-rise : (tags : List Tag) (n : ℕ) → length tags ≤ n → RiseBelow tags n → KeysRise tags
all-rise tags n le rise = sorted_from_all_adjacent nat_list_cmp_total (map key_of tags) [] each
  where
    each : (k : ℕ) → k + 1 < length (map key_of tags) → slice_cmp nat_cmp (get_or (map key_of tags) k []) (get_or (map key_of tags) (k + 1) []) ≡ Less
    each k lt =
        let within : k + 1 < length tags = subst (λ m. k + 1 < m) (length-map tags key_of) lt in
        let a = key-at tags k (omega arith) in
        let b = key-at tags (k + 1) within in
        ap (λ x. slice_cmp nat_cmp x (get_or (map key_of tags) (k + 1) [])) a ∙ ap (slice_cmp nat_cmp (key_of (get_or tags k no_tag))) b ∙ rise k no_tag (omega arith)

pub one-falls : (tags : List Tag) (n : ℕ) (d e : Tag) → 0 < n → n < length tags → is_lt (slice_cmp nat_cmp (get_or tags (n - 1) d).0 (get_or tags n e).0) ≡ false → KeysRise tags → ⊥
one-falls tags n d e some within falls rise =
    let inside : n < length (map key_of tags) = subst (λ m. n < m) (sym (length-map tags key_of)) within in
    let less = Less-from_sorted (slice_cmp nat_cmp) (map key_of tags) (n - 1) n [] rise (omega arith) inside in
    let a = get_or-map key_of tags (n - 1) d [] (omega arith) in
    let b = get_or-map key_of tags n e [] within in
    let less-there : slice_cmp nat_cmp (get_or tags (n - 1) d).0 (get_or tags n e).0 ≡ Less = sym (ap (λ x. slice_cmp nat_cmp x (get_or (map key_of tags) n [])) a ∙ ap (slice_cmp nat_cmp (get_or tags (n - 1) d).0) b) ∙ less in
    true≢false (sym (ap is_lt less-there) ∙ falls)

below_front : (P : List ℕ → Type 0) (front rest : List Tag) → AllByRecursion P (map key_of (front ++ rest)) → AllByRecursion P (map key_of front)
below_front P [] rest h = tt
below_front P (tag ∷ front) rest h = (h.0, below_front P front rest h.1)

-- the first of tags that rise do too
front_rises : (front rest : List Tag) → KeysRise (front ++ rest) → KeysRise front
unfolding IsStrictlySortedBy
front_rises [] rest h = tt
front_rises (tag ∷ front) rest h = (below_front (λ y. slice_cmp nat_cmp tag.0 y ≡ Less) front rest h.0, front_rises front rest h.1)

take_rises : (n : ℕ) (tags : List Tag) → KeysRise tags → KeysRise (take n tags)
take_rises n tags h = front_rises (take n tags) (drop n tags) (subst KeysRise (sym (take-append-drop n tags)) h)

pub one_more_rises : (tags : List Tag) (i : ℕ) (tag : Tag) (key value : List ℕ) → i < length tags → tag ≡ get_or tags i tag → key ≡ tag.0 → value ≡ tag.1 → KeysRise tags → KeysRise (take i tags ++ (key, value) ∷ [])
one_more_rises tags i tag key value lt is at_key at_value h =
    let pair : tag ≡ (key, value) = ap₂ (λ (k v : List ℕ). (k, v)) (sym at_key) (sym at_value) in
    subst KeysRise (take_more tags i tag lt ∙ ap (λ (t : Tag). take i tags ++ t ∷ []) (sym is ∙ pair)) (take_rises (i + 1) tags h)
