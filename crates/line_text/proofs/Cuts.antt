-- A text that is cut at its first such byte, with bytes before it or behind it.
use Rattle.std.proofs.Common.{◌≡◌, ℕ, suc, ◌+◌, ◌<◌, Bool, true, false, cond, not, List, [], ◌∷◌, ◌++◌, length, take, drop, Option, Some, None, refl, sym, ap, ◌∙◌, append-nil, arith, length-append, length-drop}
use Rattle.std.specs.Prelude.{nat_lt, unwrap_or, ◌==◌}
use Rattle.std.specs.List.{position_or_len}
use Rattle.std.proofs.Math.Seq.{take-append-add, drop-append-add}
use Rattle.std.proofs.lemmas.Bool.{lt-ltb, le-ltb, ltb-true, ltb-false, eq-eqb, eqb-true}
use Rattle.std.proofs.lemmas.List.Folds.{prefix_len-append}
use Rattle.std.proofs.lemmas.List.Sums.{prefix_len-le-length}
use Rattle.osm_base.specs.Parts.{is_byte, parted}

abbrev Cut : Type 0
Cut = Option (List ℕ × List ℕ)

none_some : (a : List ℕ × List ℕ) → ◌≡◌ {A = Cut} None (Some a) → ⊥
none_some a e = cc

module _ (c : ℕ) where
  abbrev place : List ℕ → ℕ
  place text = position_or_len (is_byte c) text

  -- the cut at a place, where the test says that there is one
  abbrev cut_by : Bool → ℕ → List ℕ → Cut
  cut_by b n text = cond b (Some (take n text, drop (n + 1) text)) None

  pub record CutAt (text first rest : List ℕ) : Type 0 where
    pub within : place text < length text
    pub front : take (place text) text ≡ first
    pub back : drop (place text + 1) text ≡ rest

  pub cut_place : (text first rest : List ℕ) → parted c text ≡ Some (first, rest) → CutAt text first rest
  cut_place text first rest is = by (nat_lt (place text) (length text)) refl is
    where
      by : (b : Bool) → nat_lt (place text) (length text) ≡ b → cut_by b (place text) text ≡ Some (first, rest) → CutAt text first rest
      by true e same = record {
        within = ltb-true (place text) (length text) e;
        front = ap (λ (o : Cut). (unwrap_or o ([], [])).0) same;
        back = ap (λ (o : Cut). (unwrap_or o ([], [])).1) same;
      }
      by false e same = absurd (none_some (first, rest) same)

  pub uncut_place : (text : List ℕ) → parted c text ≡ None → place text ≡ length text
  uncut_place text is = by (nat_lt (place text) (length text)) refl is
    where
      by : (b : Bool) → nat_lt (place text) (length text) ≡ b → cut_by b (place text) text ≡ None → place text ≡ length text
      by true e same = cc
      by false e same = omega (arith, ltb-false (place text) (length text) e, prefix_len-le-length (λ (x : ℕ). not (is_byte c x)) text)

  cut_of : (text : List ℕ) (n : ℕ) → place text ≡ n → n < length text → parted c text ≡ Some (take n text, drop (n + 1) text)
  cut_of text n is within =
      ap (λ (k : ℕ). cut_by (nat_lt k (length text)) k text) is
      ∙ ap (λ (b : Bool). cut_by b n text) (lt-ltb n (length text) within)

  uncut : (text : List ℕ) → place text ≡ length text → parted c text ≡ None
  uncut text is =
      ap (λ (k : ℕ). cut_by (nat_lt k (length text)) k text) is
      ∙ ap (λ (b : Bool). cut_by b (length text) text) (le-ltb (length text) (length text) (omega arith))

  -- the place in a text with another one behind it
  place-append : (xs ys : List ℕ) → place (xs ++ ys) ≡ cond (place xs == length xs) (length xs + place ys) (place xs)
  place-append xs ys = prefix_len-append (λ (x : ℕ). not (is_byte c x)) xs ys

  place_behind : (xs ys : List ℕ) → place xs ≡ length xs → place (xs ++ ys) ≡ length xs + place ys
  place_behind xs ys none =
      place-append xs ys ∙ ap (λ (b : Bool). cond b (length xs + place ys) (place xs)) (eq-eqb (place xs) (length xs) none)

  pub cut_shorter : (text first rest : List ℕ) → parted c text ≡ Some (first, rest) → length rest < length text
  cut_shorter text first rest is =
      let cut = cut_place text first rest is in
      omega (arith, cut.within, ap length cut.back, length-drop (place text + 1) text)

  -- uncut bytes before it go to the first part
  pub cut_begun : (begun text first rest : List ℕ) → parted c begun ≡ None → parted c text ≡ Some (first, rest) → parted c (begun ++ text) ≡ Some (begun ++ first, rest)
  cut_begun begun text first rest none is =
      let cut = cut_place text first rest is in
      let n = place text in
      let within : n < length text = cut.within in
      let at : place (begun ++ text) ≡ length begun + n = place_behind begun text (uncut_place begun none) in
      let longer : length begun + n < length (begun ++ text) = omega (arith, within, length-append begun text) in
      let next : length begun + n + 1 ≡ length begun + (n + 1) = omega arith in
      cut_of (begun ++ text) (length begun + n) at longer
      ∙ ap (λ (xs : List ℕ). Some (xs, drop (length begun + n + 1) (begun ++ text))) (take-append-add begun text n ∙ ap (λ (xs : List ℕ). begun ++ xs) cut.front)
      ∙ ap (λ (xs : List ℕ). Some (begun ++ first, xs)) (ap (λ (k : ℕ). drop k (begun ++ text)) next ∙ drop-append-add begun text (n + 1) ∙ cut.back)

  -- two uncut texts
  pub uncut_both : (xs ys : List ℕ) → parted c xs ≡ None → parted c ys ≡ None → parted c (xs ++ ys) ≡ None
  uncut_both xs ys none also =
      uncut (xs ++ ys) (place_behind xs ys (uncut_place xs none) ∙ ap (λ (n : ℕ). length xs + n) (uncut_place ys also) ∙ sym (length-append xs ys))

  -- ---- what was cut

  -- the place of the first such byte, where the first byte is one or is not
  abbrev place_by : Bool → List ℕ → ℕ
  place_by b xs = cond (not b) (1 + place xs) 0

  rejoined : (text : List ℕ) → place text < length text → text ≡ take (place text) text ++ c ∷ drop (place text + 1) text
  rejoined [] h = absurd (omega arith)
  rejoined (x ∷ xs) h = by (x == c) refl h (λ within. rejoined xs within)
    where
      by : (b : Bool) → (x == c) ≡ b → place_by b xs < length (x ∷ xs) → (place xs < length xs → xs ≡ take (place xs) xs ++ c ∷ drop (place xs + 1) xs)
          → x ∷ xs ≡ take (place_by b xs) (x ∷ xs) ++ c ∷ drop (place_by b xs + 1) (x ∷ xs)
      by true e h again = ap (λ y. y ∷ xs) (eqb-true x c e)
      by false e h again =
          let n = place xs in
          let step : 1 + n ≡ suc n = omega arith in
          let later : 1 + n + 1 ≡ suc (n + 1) = omega arith in
          let within : n < length xs = omega arith in
          ap (λ ys. x ∷ ys) (again within)
          ∙ ap (λ ys. ys ++ c ∷ drop (n + 1) xs) (ap (λ m. take m (x ∷ xs)) (sym step))
          ∙ ap (λ ys. take (1 + n) (x ∷ xs) ++ c ∷ ys) (ap (λ m. drop m (x ∷ xs)) (sym later))

  pub cut_text : (text first rest : List ℕ) → parted c text ≡ Some (first, rest) → text ≡ first ++ c ∷ rest
  cut_text text first rest is =
      let cut = cut_place text first rest is in
      rejoined text cut.within ∙ ap (λ (l : List ℕ). l ++ c ∷ drop (place text + 1) text) cut.front ∙ ap (λ (l : List ℕ). first ++ c ∷ l) cut.back

  at_once : (more : List ℕ) → parted c (c ∷ more) ≡ Some ([], more)
  at_once more = cut_of (c ∷ more) 0 (ap (λ (b : Bool). place_by b more) (eq-eqb c c refl)) (omega arith)

  -- an uncut text is cut at such a byte behind it
  pub cut_there : (text more : List ℕ) → position_or_len (is_byte c) text ≡ length text → parted c (text ++ c ∷ more) ≡ Some (text, more)
  cut_there text more all = cut_begun text (c ∷ more) [] more (uncut text all) (at_once more) ∙ ap (λ (l : List ℕ). Some (l, more)) (append-nil text)
