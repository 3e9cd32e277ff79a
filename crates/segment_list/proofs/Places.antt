-- Where the items of a list in segments stand.
use Rattle.std.proofs.Common.{◌≡◌, ℕ, ◌+◌, ◌*◌, ◌/◌, ◌%◌, ◌<◌, ◌≤◌, ◌^◌, zero, suc, Option, Some, None, Bor, rules, List, [], ◌∷◌, ◌++◌, length, set, get_or, refl, sym, ap, subst, ◌∙◌, arith, length-append}
use Rattle.std.specs.Prelude.{slice_get, option_copied}
use Rattle.std.specs.Slice.{IsItemAt}
use Rattle.std.proofs.lemmas.List.{append-nil, append_assoc, length-set, set-append_left}
use Rattle.std.proofs.lemmas.Option.{slice_get_within, slice_get_past, slice_get_read, get_or_from_slice_get}
use Rattle.std.proofs.lemmas.Grind.{flat_map-append}
use Rattle.segment_list.specs.Segments.{joined, AllFullButLast, IsInSegments}

get_left : {T : Type 0} (xs ys : List T) (i : ℕ) → i < length xs → slice_get (xs ++ ys) i ≡ slice_get xs i
get_left [] ys i within = absurd (omega arith)
get_left (x ∷ xs) ys zero within = refl
get_left (x ∷ xs) ys (suc i) within = get_left xs ys i (omega arith)

get_right : {T : Type 0} (xs ys : List T) (i k : ℕ) → i ≡ length xs + k → slice_get (xs ++ ys) i ≡ slice_get ys k
get_right [] ys i k is = ap (slice_get ys) (omega (arith, is))
get_right (x ∷ xs) ys zero k is = absurd (omega arith)
get_right (x ∷ xs) ys (suc i) k is = get_right xs ys i k (omega arith)

set_right : {T : Type 0} (xs ys : List T) (i k : ℕ) (w : T) → i ≡ length xs + k → set (xs ++ ys) i w ≡ xs ++ set ys k w
set_right [] ys i k w is = ap (λ (j : ℕ). set ys j w) (omega (arith, is))
set_right (x ∷ xs) ys zero k w is = absurd (omega arith)
set_right {T = T} (x ∷ xs) ys (suc i) k w is = ap (λ (l : List T). x ∷ l) (set_right xs ys i k w (omega arith))

-- where the same is read, there is an item
get_same : {T : Type 0} (xs ys : List T) (i j : ℕ) → slice_get xs i ≡ slice_get ys j → i < length xs → j < length ys
get_same [] ys i j same within = absurd (omega arith)
get_same (x ∷ xs) ys zero j same within = slice_get_within ys j x (sym same)
get_same (x ∷ xs) ys (suc i) j same within = get_same xs ys i j same (omega arith)

first : {T : Type 0} (y x : T) (ys : List T) → slice_get (y ∷ ys) 0 ≡ Some x → y ≡ x
first y x ys there = get_or_from_slice_get (y ∷ ys) 0 x x there

-- the first segment is full where another follows
first_full : {T : Type 0} (y : List T) (ys : List (List T)) (q : ℕ) (x : List T) → AllFullButLast (y ∷ ys) → slice_get ys q ≡ Some x → length y ≡ 1024
first_full y ys q x split there = let more = slice_get_within ys q x there in split.1.1.0 (omega (arith, more))

-- an item stands in its segment
pub at_segment :
    {T : Type 0} (xss : List (List T)) (q r p : ℕ) (x : List T)
    → AllFullButLast xss
    → p ≡ q * 1024 + r
    → r < 1024
    → slice_get xss q ≡ Some x
    → slice_get (joined xss) p ≡ slice_get x r
at_segment [] q r p x split is within there = let some = slice_get_within [] q x there in absurd (omega (arith, some))
at_segment {T = T} (y ∷ []) zero r p x split is within there =
    ap (λ (l : List T). slice_get l p) (append-nil y ∙ first y x [] there) ∙ ap (slice_get x) (omega (arith, is))
at_segment {T = T} (y ∷ z ∷ zs) zero r p x split is within there =
    get_left y (joined (z ∷ zs)) p (let full = first_full y (z ∷ zs) 0 z split refl in omega (arith, full, is, within))
    ∙ ap (λ (l : List T). slice_get l p) (first y x (z ∷ zs) there)
    ∙ ap (slice_get x) (omega (arith, is))
at_segment (y ∷ ys) (suc q) r p x split is within there =
    let full = first_full y ys q x split there in
    get_right y (joined ys) p (q * 1024 + r) (omega (arith, full, is)) ∙ at_segment ys q r (q * 1024 + r) x split.1.1.1 refl within there

at_most : {T : Type 0} (xss : List (List T)) → AllFullButLast xss → length (joined xss) ≤ length xss * 1024
at_most [] split = omega arith
at_most (y ∷ ys) split = let rest = at_most ys split.1.1.1 in let few = split.1.0 in omega (arith, rest, few, length-append y (joined ys))

-- an item that there is has a segment
pub has_segment :
    {T : Type 0} (xss : List (List T)) (q r p : ℕ)
    → AllFullButLast xss
    → p ≡ q * 1024 + r
    → p < length (joined xss)
    → q < length xss
has_segment xss q r p split is within = let most = at_most xss split in omega (arith, most, is, within)

pub past_end :
    {T : Type 0} (xss : List (List T)) (q r p : ℕ)
    → AllFullButLast xss
    → p ≡ q * 1024 + r
    → length xss ≤ q
    → length (joined xss) ≤ p
past_end xss q r p split is past = let most = at_most xss split in omega (arith, most, is, past)

pub in_segment :
    {T : Type 0} (xss : List (List T)) (q r p : ℕ) (x : List T)
    → AllFullButLast xss
    → p ≡ q * 1024 + r
    → r < 1024
    → slice_get xss q ≡ Some x
    → p < length (joined xss)
    → r < length x
in_segment xss q r p x split is within there some = get_same (joined xss) x p r (at_segment xss q r p x split is within there) some

-- an item changes in its segment
pub joined_set :
    {T : Type 0} (xss : List (List T)) (q r p : ℕ) (x : List T) (w : T)
    → AllFullButLast xss
    → p ≡ q * 1024 + r
    → slice_get xss q ≡ Some x
    → r < length x
    → joined (set xss q (set x r w)) ≡ set (joined xss) p w
joined_set [] q r p x w split is there within = let some = slice_get_within [] q x there in absurd (omega (arith, some))
joined_set {T = T} (y ∷ ys) zero r p x w split is there within =
    let here = first y x ys there in
    ap (λ (i : ℕ). set x i w ++ joined ys) (omega (arith, is))
    ∙ ap (λ (l : List T). set l p w ++ joined ys) (sym here)
    ∙ sym (set-append_left y (joined ys) p w (let long = ap length here in omega (arith, long, is, within)))
joined_set {T = T} (y ∷ ys) (suc q) r p x w split is there within =
    let full = first_full y ys q x split there in
    ap (λ (l : List T). y ++ l) (joined_set ys q r (q * 1024 + r) x w split.1.1.1 refl there within)
    ∙ sym (set_right y (joined ys) p (q * 1024 + r) w (omega (arith, full, is)))

-- a segment is replaced by one of its length
pub split_set :
    {T : Type 0} (xss : List (List T)) (q : ℕ) (x new : List T)
    → AllFullButLast xss
    → slice_get xss q ≡ Some x
    → length new ≡ length x
    → AllFullButLast (set xss q new)
split_set [] q x new split there long = split
split_set (y ∷ ys) zero x new split there long =
    let same : length new ≡ length y = long ∙ sym (ap length (first y x ys there)) in
    (omega (arith, same, split.0), (omega (arith, same, split.1.0), ((λ more. same ∙ split.1.1.0 more), split.1.1.1)))
split_set (y ∷ ys) (suc q) x new split there long =
    (split.0, (split.1.0, ((λ more. first_full y ys q x split there), split_set ys q x new split.1.1.1 there long)))

-- the last segment, which is not full, gets one more
module _ {T : Type 0} (w : T) where
  pub split_more :
      (xss : List (List T)) (q r : ℕ) (x : List T)
      → AllFullButLast xss
      → length (joined xss) ≡ q * 1024 + r
      → 0 < r
      → r < 1024
      → slice_get xss q ≡ Some x
      → AllFullButLast (set xss q (x ++ w ∷ []))
  split_more [] q r x split many some within there = split
  split_more (y ∷ []) zero r x split many some within there =
      let long = ap length (first y x [] there) in
      let more = length-append x (w ∷ []) in
      let all = length-append y [] in
      (omega (arith, more), (omega (arith, more, long, all, many, within), ((λ more. absurd (omega arith)), tt)))
  split_more (y ∷ z ∷ zs) zero r x split many some within there =
      let full = first_full y (z ∷ zs) 0 z split refl in
      let all = length-append y (joined (z ∷ zs)) in
      absurd (omega (arith, full, all, many, within))
  split_more (y ∷ ys) (suc q) r x split many some within there =
      let full = first_full y ys q x split there in
      let all = length-append y (joined ys) in
      (split.0, (split.1.0, ((λ more. full), split_more ys q r x split.1.1.1 (omega (arith, full, all, many)) some within there)))

  pub joined_more :
      (xss : List (List T)) (q r : ℕ) (x : List T)
      → AllFullButLast xss
      → length (joined xss) ≡ q * 1024 + r
      → r < 1024
      → slice_get xss q ≡ Some x
      → joined (set xss q (x ++ w ∷ [])) ≡ joined xss ++ w ∷ []
  joined_more [] q r x split many within there = let some = slice_get_within [] q x there in absurd (omega (arith, some))
  joined_more (y ∷ []) zero r x split many within there =
      append-nil (x ++ w ∷ []) ∙ ap (λ (l : List T). l ++ w ∷ []) (sym (first y x [] there) ∙ sym (append-nil y))
  joined_more (y ∷ z ∷ zs) zero r x split many within there =
      let full = first_full y (z ∷ zs) 0 z split refl in
      let all = length-append y (joined (z ∷ zs)) in
      absurd (omega (arith, full, all, many, within))
  joined_more (y ∷ ys) (suc q) r x split many within there =
      let full = first_full y ys q x split there in
      let all = length-append y (joined ys) in
      ap (λ (l : List T). y ++ l) (joined_more ys q r x split.1.1.1 (omega (arith, full, all, many)) within there)
      ∙ sym (append_assoc y (joined ys) (w ∷ []))

  -- all segments are full, and a new one begins
  pub split_anew : (xss : List (List T)) (q : ℕ) → AllFullButLast xss → length (joined xss) ≡ q * 1024 → AllFullButLast (xss ++ (w ∷ []) ∷ [])
  split_anew [] q split many = (omega arith, (omega arith, ((λ more. absurd (omega arith)), tt)))
  split_anew (y ∷ []) q split many =
      let all = length-append y [] in
      (split.0, (split.1.0, ((λ more. omega (arith, all, many, split.0, split.1.0)), split_anew [] 0 tt refl)))
  split_anew (y ∷ z ∷ zs) zero split many =
      let all = length-append y (joined (z ∷ zs)) in
      absurd (omega (arith, all, many, split.0))
  split_anew (y ∷ z ∷ zs) (suc q) split many =
      let full = first_full y (z ∷ zs) 0 z split refl in
      let all = length-append y (joined (z ∷ zs)) in
      (split.0, (split.1.0, ((λ more. full), split_anew (z ∷ zs) q split.1.1.1 (omega (arith, full, all, many)))))

  pub joined_anew : (xss : List (List T)) → joined (xss ++ (w ∷ []) ∷ []) ≡ joined xss ++ w ∷ []
  joined_anew xss = flat_map-append (λ (segment : List T). segment) xss ((w ∷ []) ∷ [])

split_at : (p : ℕ) → p ≡ p / 1024 * 1024 + p % 1024
split_at p = omega arith

few_left : (p : ℕ) → p % 1024 < 1024
few_left p = omega arith

pub fewer : {T : Type 0} (xss : List (List T)) (count : ℕ) (list : List T) → IsInSegments xss count → joined xss ≡ list → length list < 2 ^ 63
fewer xss count list held view = let same = ap length view in let was = held.counted in let few = held.few in omega (arith, same, was, few)

-- of a list that stands in segments, at a place
module _ {T : Type 0} (xss : List (List T)) (count : ℕ) (list : List T) (held : IsInSegments xss count) (view : joined xss ≡ list) (p : ℕ) where
  pub none_here : length xss ≤ p / 1024 → slice_get list p ≡ None
  none_here past =
      sym (ap (λ (l : List T). slice_get l p) view)
      ∙ slice_get_past (joined xss) p (past_end xss (p / 1024) (p % 1024) p held.split (split_at p) past)

  some_here : (x : List T) → slice_get xss (p / 1024) ≡ Some x → slice_get list p ≡ slice_get x (p % 1024)
  some_here x there =
      sym (ap (λ (l : List T). slice_get l p) view)
      ∙ at_segment xss (p / 1024) (p % 1024) p x held.split (split_at p) (few_left p) there

  pub read_here : (x : List T) → p / 1024 < length xss → x ≡ get_or xss (p / 1024) x → slice_get list p ≡ slice_get x (p % 1024)
  read_here x within is = some_here x (slice_get_read xss (length xss) (p / 1024) x refl within is)

  module _ (within : p < length list) where
    long : p < length (joined xss)
    long = let same = ap length view in omega (arith, same, within)

    pub segment_there : p / 1024 < length xss
    segment_there = has_segment xss (p / 1024) (p % 1024) p held.split (split_at p) long

    module _ (x : List T) (is : x ≡ get_or xss (p / 1024) x) where
      there : slice_get xss (p / 1024) ≡ Some x
      there = slice_get_read xss (length xss) (p / 1024) x refl segment_there is

      pub item_there : p % 1024 < length x
      item_there = in_segment xss (p / 1024) (p % 1024) p x held.split (split_at p) (few_left p) there long

      pub item_is : slice_get list p ≡ slice_get x (p % 1024)
      item_is = some_here x there

      pub list_set : (w : T) → joined (set xss (p / 1024) (set x (p % 1024) w)) ≡ set list p w
      list_set w =
          joined_set xss (p / 1024) (p % 1024) p x w held.split (split_at p) there item_there
          ∙ ap (λ (l : List T). set l p w) view

      pub still_held : (w : T) → IsInSegments (set xss (p / 1024) (set x (p % 1024) w)) count
      still_held w = record {
        split = split_set xss (p / 1024) x (set x (p % 1024) w) held.split there (length-set x (p % 1024) w);
        counted = held.counted ∙ ap length view ∙ sym (length-set list p w) ∙ ap length (sym (list_set w));
        few = held.few;
      }

-- the list with one more, where all segments are full
pub begun :
    {T : Type 0} (xss : List (List T)) (count : ℕ) (list : List T) (w : T)
    → IsInSegments xss count
    → joined xss ≡ list
    → length list + 1 < 2 ^ 63
    → length list % 1024 ≡ 0
    → IsInSegments (xss ++ (w ∷ []) ∷ []) (count + 1)
begun xss count list w held view few full =
    let same = ap length view in
    let more = length-append (joined xss) (w ∷ []) in
    let new = ap length (joined_anew w xss) in
    let was = held.counted in
    record {
      split = split_anew w xss (length list / 1024) held.split (omega (arith, same, full));
      counted = omega (arith, was, new, more);
      few = omega (arith, was, same, few);
    }

-- the list with one more, where the last segment is not full
module _ {T : Type 0} (xss : List (List T)) (count : ℕ) (list : List T) (held : IsInSegments xss count) (view : joined xss ≡ list) (room : 0 < length list % 1024) where
  counts : count ≡ length list
  counts = held.counted ∙ ap length view

  pub last_there : count / 1024 < length xss
  last_there =
      let most = at_most xss held.split in
      let some : 0 < count % 1024 = subst (λ (n : ℕ). 0 < n % 1024) (sym counts) room in
      let was = held.counted in
      omega (arith, most, some, was)

  module _ (x : List T) (is : x ≡ get_or xss (count / 1024) x) (w : T) where
    last : slice_get xss (count / 1024) ≡ Some x
    last = slice_get_read xss (length xss) (count / 1024) x refl last_there is

    many : length (joined xss) ≡ count / 1024 * 1024 + count % 1024
    many = sym held.counted ∙ split_at count

    pub list_more : joined (set xss (count / 1024) (x ++ w ∷ [])) ≡ list ++ w ∷ []
    list_more = joined_more w xss (count / 1024) (count % 1024) x held.split many (few_left count) last ∙ ap (λ (l : List T). l ++ w ∷ []) view

    pub more_held : length list + 1 < 2 ^ 63 → IsInSegments (set xss (count / 1024) (x ++ w ∷ [])) (count + 1)
    more_held few =
        let more = length-append list (w ∷ []) in
        let new = ap length list_more in
        let was = counts in
        record {
          split = split_more w xss (count / 1024) (count % 1024) x held.split many (subst (λ (n : ℕ). 0 < n % 1024) (sym counts) room) (few_left count) last;
          counted = omega (arith, was, new, more);
          few = omega (arith, was, few);
        }

-- what a look-up in a slice gives
pub looked_up : {X : Type 0} (xs : List X) (i : ℕ) (r : Option (Bor X)) → IsItemAt xs i r → option_copied r ≡ slice_get xs i
looked_up xs i None found = sym (slice_get_past xs i (search (rules, found)))
looked_up xs i (Some x) found = sym (slice_get_read xs (length xs) i x.now refl (search (rules, found)) (search (rules, found)))
