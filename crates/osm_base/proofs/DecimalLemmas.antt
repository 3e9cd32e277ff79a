-- Decimal numbers that are read with a cap, and the parts of a box's text.
use Rattle.std.proofs.Common.{◌≡◌, ℕ, ◌+◌, ◌*◌, ◌-◌, codes, ◌<◌, ◌⊎◌, inl, inr, Bool, true, false, not, ◌&&◌, ◌||◌, min, List, [], ◌∷◌, ◌++◌, length, get_or, take, drop, Option, Some, None, Err, ℤ, pos, negsuc, refl, sym, ap, ◌∙◌, arith, ⊎_elim}
use Rattle.std.specs.Prelude.{unwrap_or, Result}
use Rattle.std.specs.Char.{digit_value, is_ascii_digit}
use Rattle.std.specs.List.{list_all}
use Rattle.std.specs.Str.Parse.{digits_value_after}
use Rattle.std.proofs.lemmas.List.{take_more}
use Rattle.std.proofs.lemmas.Bool.{cases_lt, and_parts}
use Rattle.std.proofs.lemmas.List.Folds.{list_all-append}
use Rattle.std.proofs.lemmas.List.{take-append-drop, take_all, drop_all, length-take-le, length-drop}
use Rattle.std.proofs.lemmas.Int.{ints}
use Rattle.osm_base.specs.declared.box_faults.BoxFault.{BoxFault}
use Rattle.osm_base.specs.declared.box_faults.BoxFault.TheVariants.{NotFour, OutOfRange}
use Rattle.osm_base.specs.Place.{Area, area_between, is_position, is_within}
use Rattle.osm_base.specs.Parts.{parted, parts_of}
use Rattle.osm_base.specs.Decimal.{comma, is_unsigned, is_negative, without_sign, magnitude, seven_places, signed, decimal_of, capped_decimal, area_of_edges, area_of_parts, FourParts, four_of}
use Rattle.osm_base.proofs.Cuts.{parts-cut, parts-whole, some_part}

-- ---- digits

pub after-append : (n : ℕ) (xs ys : List ℕ) → digits_value_after 10 n (xs ++ ys) ≡ digits_value_after 10 (digits_value_after 10 n xs) ys
after-append n [] ys = refl
after-append n (x ∷ xs) ys = after-append (n * 10 + digit_value x) xs ys

pub after_more : (n : ℕ) (ds : List ℕ) (i : ℕ) → i < length ds
    → digits_value_after 10 n (take (i + 1) ds) ≡ digits_value_after 10 n (take i ds) * 10 + digit_value (get_or ds i 0)
after_more n ds i below =
    ap (digits_value_after 10 n) (take_more ds i 0 below) ∙ after-append n (take i ds) (get_or ds i 0 ∷ [])

-- the cap may be taken at each digit, or at the end
pub capped_step : (total digit cap n : ℕ) → n ≡ min total cap → min (n * 10 + digit) cap ≡ min (total * 10 + digit) cap
capped_step total digit cap n h = omega arith

after-mono : (cap m n : ℕ) (ds : List ℕ) → min m cap ≡ min n cap → min (digits_value_after 10 m ds) cap ≡ min (digits_value_after 10 n ds) cap
after-mono cap m n [] h = h
after-mono cap m n (d ∷ ds) h = after-mono cap (m * 10 + digit_value d) (n * 10 + digit_value d) ds (omega arith)

-- digits behind a number that was capped
pub after-capped : (cap n : ℕ) (ds : List ℕ) → min (digits_value_after 10 (min n cap) ds) cap ≡ min (digits_value_after 10 n ds) cap
after-capped cap n ds = after-mono cap (min n cap) n ds (omega arith)

-- the digits around a point, taken one after the other
pub units-capped :
    (cap : ℕ) (whole kept zeros : List ℕ) (first second third : ℕ)
    → first ≡ min (digits_value_after 10 0 whole) cap
    → second ≡ min (digits_value_after 10 first kept) cap
    → third ≡ min (digits_value_after 10 second zeros) cap
    → third ≡ min (digits_value_after 10 0 (whole ++ (kept ++ zeros))) cap
units-capped cap whole kept zeros first second third one two three =
    let value = digits_value_after 10 0 whole in
    let up : second ≡ min (digits_value_after 10 value kept) cap =
    two ∙ ap (λ (n : ℕ). min (digits_value_after 10 n kept) cap) one ∙ after-capped cap value kept in
    let last : third ≡ min (digits_value_after 10 (digits_value_after 10 value kept) zeros) cap =
    three ∙ ap (λ (n : ℕ). min (digits_value_after 10 n zeros) cap) up ∙ after-capped cap (digits_value_after 10 value kept) zeros in
    last ∙ ap (λ (n : ℕ). min n cap) (sym (after-append 0 whole (kept ++ zeros) ∙ after-append value kept zeros))

-- the digits that count, by how many there are
pub seven-kept : (fraction : List ℕ) (k : ℕ) → k ≡ min (length fraction) 7
    → take k fraction ++ take (7 - length (take k fraction)) (drop (length (take k fraction)) (codes "0000000")) ≡ seven_places fraction
seven-kept fraction k is =
    ⊎_elim
    (λ above.
    let seven : k ≡ 7 = omega (arith, above) in
    let full : length (take 7 fraction) ≡ 7 = length-take-le 7 fraction (omega (arith, above)) in
    let none : drop (length fraction) (codes "0000000") ≡ [] = drop_all (length fraction) (codes "0000000") (omega (arith, above)) in
    rw (seven, full, none) refl)
    (λ within.
    let kept : take k fraction ≡ fraction = take_all k fraction (omega (arith, within)) in
    let first : take 7 fraction ≡ fraction = take_all 7 fraction within in
    let rest = drop (length fraction) (codes "0000000") in
    rw (kept, first)
    (ap (λ (z : List ℕ). fraction ++ z) (take_all (7 - length fraction) rest (omega (arith, length-drop (length fraction) (codes "0000000"))))))
    (cases_lt 7 (length fraction))

pub zeros-left : (k n : ℕ) → list_all is_ascii_digit (take n (drop k (codes "0000000"))) ≡ true
zeros-left k n = all_take n (drop k (codes "0000000")) (all_drop k (codes "0000000") refl)
  where
    all_drop : (k : ℕ) (xs : List ℕ) → list_all is_ascii_digit xs ≡ true → list_all is_ascii_digit (drop k xs) ≡ true
    all_drop k xs all =
        (and_parts (list_all is_ascii_digit (take k xs)) (list_all is_ascii_digit (drop k xs))
        (sym (list_all-append is_ascii_digit (take k xs) (drop k xs)) ∙ ap (list_all is_ascii_digit) (take-append-drop k xs) ∙ all)).1

    all_take : (k : ℕ) (xs : List ℕ) → list_all is_ascii_digit xs ≡ true → list_all is_ascii_digit (take k xs) ≡ true
    all_take k xs all =
        (and_parts (list_all is_ascii_digit (take k xs)) (list_all is_ascii_digit (drop k xs))
        (sym (list_all-append is_ascii_digit (take k xs) (drop k xs)) ∙ ap (list_all is_ascii_digit) (take-append-drop k xs) ∙ all)).0

-- ---- edges of a box

-- two edges that are the same, or that both lie off the globe
pub record BothOff (a b : ℤ) : Type 0 where
  pub lat_a : is_within (negsuc 899999999) a (pos 900000000) ≡ false
  pub lat_b : is_within (negsuc 899999999) b (pos 900000000) ≡ false
  pub lon_a : is_within (negsuc 1799999999) a (pos 1800000000) ≡ false
  pub lon_b : is_within (negsuc 1799999999) b (pos 1800000000) ≡ false

off_lat : (b : Bool) (n : ℕ) → 900000000 < n → is_within (negsuc 899999999) (signed b n) (pos 900000000) ≡ false
off_lat true n above = grind (arith, ints)
off_lat false n above = grind (arith, ints)

off_lon : (b : Bool) (n : ℕ) → 1800000000 < n → is_within (negsuc 1799999999) (signed b n) (pos 1800000000) ≡ false
off_lon true n above = grind (arith, ints)
off_lon false n above = grind (arith, ints)

capped_edge : (b : Bool) (n : ℕ) → (signed b (min n 2000000000) ≡ signed b n) ⊎ BothOff (signed b (min n 2000000000)) (signed b n)
capped_edge b n =
    ⊎_elim
    (λ above. inr (record {
      lat_a = off_lat b (min n 2000000000) (omega (arith, above));
      lat_b = off_lat b n (omega (arith, above));
      lon_a = off_lon b (min n 2000000000) (omega (arith, above));
      lon_b = off_lon b n (omega (arith, above));
    }))
    (λ within. let same : min n 2000000000 ≡ n = omega (arith, within) in inl (ap (signed b) same))
    (cases_lt 2000000000 n)

off_corner : (left bottom right top : ℤ) → is_position bottom left ≡ false → area_between left bottom right top ≡ Err OutOfRange
off_corner left bottom right top is = rw is refl

and-false : (b : Bool) → (b && false) ≡ false
and-false true = refl
and-false false = refl

or-true : (b : Bool) → (b || true) ≡ true
or-true true = refl
or-true false = refl

off_other_corner : (left bottom right top : ℤ) → is_position top right ≡ false → area_between left bottom right top ≡ Err OutOfRange
off_other_corner left bottom right top is = rw is (rw (or-true (not (is_position bottom left))) refl)

off_left : (left bottom right top : ℤ) → is_within (negsuc 1799999999) left (pos 1800000000) ≡ false → area_between left bottom right top ≡ Err OutOfRange
off_left left bottom right top is =
    off_corner left bottom right top
    (ap (λ (x : Bool). is_within (negsuc 899999999) bottom (pos 900000000) && x) is ∙ and-false (is_within (negsuc 899999999) bottom (pos 900000000)))

off_right : (left bottom right top : ℤ) → is_within (negsuc 1799999999) right (pos 1800000000) ≡ false → area_between left bottom right top ≡ Err OutOfRange
off_right left bottom right top is =
    off_other_corner left bottom right top
    (ap (λ (x : Bool). is_within (negsuc 899999999) top (pos 900000000) && x) is ∙ and-false (is_within (negsuc 899999999) top (pos 900000000)))

off_bottom : (left bottom right top : ℤ) → is_within (negsuc 899999999) bottom (pos 900000000) ≡ false → area_between left bottom right top ≡ Err OutOfRange
off_bottom left bottom right top is =
    off_corner left bottom right top (ap (λ (x : Bool). x && is_within (negsuc 1799999999) left (pos 1800000000)) is)

off_top : (left bottom right top : ℤ) → is_within (negsuc 899999999) top (pos 900000000) ≡ false → area_between left bottom right top ≡ Err OutOfRange
off_top left bottom right top is =
    off_other_corner left bottom right top (ap (λ (x : Bool). x && is_within (negsuc 1799999999) right (pos 1800000000)) is)

-- edges may be capped one by one: the box is the same, or there is none
Alike : ℤ → ℤ → Type 0
Alike a b = (a ≡ b) ⊎ BothOff a b

capped_left : (a b bottom right top : ℤ) → Alike a b → area_between a bottom right top ≡ area_between b bottom right top
unfolding Alike
capped_left a b bottom right top (inl same) = ap (λ (x : ℤ). area_between x bottom right top) same
capped_left a b bottom right top (inr both) = off_left a bottom right top both.lon_a ∙ sym (off_left b bottom right top both.lon_b)

capped_bottom : (a b left right top : ℤ) → Alike a b → area_between left a right top ≡ area_between left b right top
unfolding Alike
capped_bottom a b left right top (inl same) = ap (λ (x : ℤ). area_between left x right top) same
capped_bottom a b left right top (inr both) = off_bottom left a right top both.lat_a ∙ sym (off_bottom left b right top both.lat_b)

capped_right : (a b left bottom top : ℤ) → Alike a b → area_between left bottom a top ≡ area_between left bottom b top
unfolding Alike
capped_right a b left bottom top (inl same) = ap (λ (x : ℤ). area_between left bottom x top) same
capped_right a b left bottom top (inr both) = off_right left bottom a top both.lon_a ∙ sym (off_right left bottom b top both.lon_b)

capped_top : (a b left bottom right : ℤ) → Alike a b → area_between left bottom right a ≡ area_between left bottom right b
unfolding Alike
capped_top a b left bottom right (inl same) = ap (λ (x : ℤ). area_between left bottom right x) same
capped_top a b left bottom right (inr both) = off_top left bottom right a both.lat_a ∙ sym (off_top left bottom right b both.lat_b)

-- two numbers that are alike, or both none
AlikeIfAny : Option ℤ → Option ℤ → Type 0
AlikeIfAny None None = Unit {0}
AlikeIfAny None (Some b) = ⊥
AlikeIfAny (Some a) None = ⊥
AlikeIfAny (Some a) (Some b) = Alike a b

capped_number : (text : List ℕ) → AlikeIfAny (capped_decimal text) (decimal_of text)
unfolding AlikeIfAny Alike
capped_number text = by_test (is_unsigned (without_sign text)) refl
  where
    by_test : (is : Bool) → is_unsigned (without_sign text) ≡ is → AlikeIfAny (capped_decimal text) (decimal_of text)
    by_test true e = rw e (capped_edge (is_negative text) (magnitude (without_sign text)))
    by_test false e = rw e tt

capped_edges :
    (a b c d a' b' c' d' : Option ℤ)
    → AlikeIfAny a a' → AlikeIfAny b b' → AlikeIfAny c c' → AlikeIfAny d d'
    → area_of_edges a b c d ≡ area_of_edges a' b' c' d'
unfolding AlikeIfAny
capped_edges (Some a) (Some b) (Some c) (Some d) (Some a') (Some b') (Some c') (Some d') p q r s =
    capped_left a a' b c d p ∙ capped_bottom b b' a' c d q ∙ capped_right c c' a' b' d r ∙ capped_top d d' a' b' c' s
capped_edges None b c d None b' c' d' p q r s = refl
capped_edges (Some a) None c d (Some a') None c' d' p q r s = refl
capped_edges (Some a) (Some b) None d (Some a') (Some b') None d' p q r s = refl
capped_edges (Some a) (Some b) (Some c) None (Some a') (Some b') (Some c') None p q r s = refl
capped_edges None b c d (Some a') b' c' d' p q r s = absurd p
capped_edges (Some a) b c d None b' c' d' p q r s = absurd p
capped_edges (Some a) None c d (Some a') (Some b') c' d' p q r s = absurd q
capped_edges (Some a) (Some b) c d (Some a') None c' d' p q r s = absurd q
capped_edges (Some a) (Some b) None d (Some a') (Some b') (Some c') d' p q r s = absurd r
capped_edges (Some a) (Some b) (Some c) d (Some a') (Some b') None d' p q r s = absurd r
capped_edges (Some a) (Some b) (Some c) None (Some a') (Some b') (Some c') (Some d') p q r s = absurd s
capped_edges (Some a) (Some b) (Some c) (Some d) (Some a') (Some b') (Some c') None p q r s = absurd s

-- ---- the parts of a box's text

pub few-one : (text : List ℕ) → parted comma text ≡ None → four_of (parts_of comma text) ≡ None
few-one text one = rw (parts-whole comma text one) refl

pub few-two : (text a rest : List ℕ) → parted comma text ≡ Some (a, rest) → parted comma rest ≡ None → four_of (parts_of comma text) ≡ None
few-two text a rest one two = rw (parts-cut comma text a rest one, parts-whole comma rest two) refl

pub few-three :
    (text a rest b behind : List ℕ)
    → parted comma text ≡ Some (a, rest) → parted comma rest ≡ Some (b, behind) → parted comma behind ≡ None
    → four_of (parts_of comma text) ≡ None
few-three text a rest b behind one two three =
    rw (parts-cut comma text a rest one, parts-cut comma rest b behind two, parts-whole comma behind three) refl

pub four :
    (text a rest b behind c d : List ℕ)
    → parted comma text ≡ Some (a, rest) → parted comma rest ≡ Some (b, behind) → parted comma behind ≡ Some (c, d) → parted comma d ≡ None
    → four_of (parts_of comma text) ≡ Some (record { left = a; bottom = b; right = c; top = d })
four text a rest b behind c d one two three whole =
    rw (parts-cut comma text a rest one, parts-cut comma rest b behind two, parts-cut comma behind c d three, parts-whole comma d whole) refl

five : (a b c d : List ℕ) (parts : List (List ℕ)) → (parts ≡ [] → ⊥) → four_of (a ∷ b ∷ c ∷ d ∷ parts) ≡ None
five a b c d [] some = absurd (some refl)
five a b c d (x ∷ parts) some = refl

pub too-many :
    (text a rest b behind c d x y : List ℕ)
    → parted comma text ≡ Some (a, rest) → parted comma rest ≡ Some (b, behind) → parted comma behind ≡ Some (c, d) → parted comma d ≡ Some (x, y)
    → four_of (parts_of comma text) ≡ None
too-many text a rest b behind c d x y one two three more =
    rw (parts-cut comma text a rest one, parts-cut comma rest b behind two, parts-cut comma behind c d three, parts-cut comma d x y more)
    (five a b c x (parts_of comma y) (some_part comma y))

-- ---- the box of these parts

pub not-four : (parts : List (List ℕ)) → four_of parts ≡ None → area_of_parts parts ≡ Err NotFour
not-four [] none = refl
not-four (a ∷ []) none = refl
not-four (a ∷ b ∷ []) none = refl
not-four (a ∷ b ∷ c ∷ []) none = refl
not-four (a ∷ b ∷ c ∷ d ∷ []) none = cc
not-four (a ∷ b ∷ c ∷ d ∷ e ∷ parts) none = refl

edges-alike : (e : FourParts)
    → area_of_edges (capped_decimal e.left) (capped_decimal e.bottom) (capped_decimal e.right) (capped_decimal e.top)
    ≡ area_of_edges (decimal_of e.left) (decimal_of e.bottom) (decimal_of e.right) (decimal_of e.top)
edges-alike e =
    capped_edges (capped_decimal e.left) (capped_decimal e.bottom) (capped_decimal e.right) (capped_decimal e.top)
    (decimal_of e.left) (decimal_of e.bottom) (decimal_of e.right) (decimal_of e.top)
    (capped_number e.left) (capped_number e.bottom) (capped_number e.right) (capped_number e.top)

four-parts : (parts : List (List ℕ)) (e : FourParts) → four_of parts ≡ Some e
    → area_of_parts parts ≡ area_of_edges (decimal_of e.left) (decimal_of e.bottom) (decimal_of e.right) (decimal_of e.top)
four-parts [] e is = cc
four-parts (a ∷ []) e is = cc
four-parts (a ∷ b ∷ []) e is = cc
four-parts (a ∷ b ∷ c ∷ []) e is = cc
four-parts (a ∷ b ∷ c ∷ d ∷ []) e is =
    ap (λ (o : Option FourParts). edges_in (unwrap_or o (record { left = []; bottom = []; right = []; top = [] }))) is
  where
    edges_in : FourParts → Result Area BoxFault
    edges_in p = area_of_edges (decimal_of p.left) (decimal_of p.bottom) (decimal_of p.right) (decimal_of p.top)
four-parts (a ∷ b ∷ c ∷ d ∷ x ∷ parts) e is = cc

-- the box of four parts, by their capped numbers
pub by-four : (parts : List (List ℕ)) (e : FourParts) → four_of parts ≡ Some e
    → area_of_edges (capped_decimal e.left) (capped_decimal e.bottom) (capped_decimal e.right) (capped_decimal e.top) ≡ area_of_parts parts
by-four parts e is = edges-alike e ∙ sym (four-parts parts e is)
