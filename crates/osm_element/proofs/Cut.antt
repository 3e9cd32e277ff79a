-- Cutting a text into tags.
use Rattle.std.proofs.Common.{◌≡◌, ℕ, zero, suc, ◌+◌, ◌-◌, ◌<◌, ◌≤◌, List, [], ◌∷◌, ◌++◌, length, take, drop, refl, sym, ap, ◌∙◌, subst, arith, append_assoc, length-append}
use Rattle.std.proofs.Math.ListN.{get_or}
use Rattle.std.proofs.Math.Seq.{drop-append_seam, take-append_seam, drop-append-add, take-length}
use Rattle.std.proofs.lemmas.List.{take-append-le, drop-append-le, length-drop, length-take}
use Rattle.std.proofs.lemmas.Str.{IsUtf8-append, IsUtf8-nil, IsCharBoundary-from_drop}
use Rattle.std.specs.List.{slice_range}
use Rattle.std.specs.Str.{IsUtf8, IsCharBoundary}
use Rattle.osm_element.specs.Tags.{byte_count, cut, start_at, MayCut, AreEnds}
use Rattle.osm_element.specs.declared.labels.Ends.{Ends}

-- ---- a text that grows

pub range_kept : {A : Type 0} (text more : List A) (a b : ℕ) → a ≤ b → b ≤ length text → slice_range (text ++ more) a b ≡ slice_range text a b
range_kept text more a b rises within =
    let room : b - a ≤ length (drop a text) = omega (arith, length-drop a text) in
    ap (take (b - a)) (drop-append-le a text more (omega arith)) ∙ take-append-le (b - a) (drop a text) more room

may_still : (from to : ℕ) (text more : List ℕ) → IsUtf8 more → MayCut from to text → MayCut from to (text ++ more)
may_still from to text more utf8 may =
    record {
      rises = may.rises;
      within = omega (arith, length-append text more, may.within);
      rest = subst IsUtf8 (sym (drop-append-le to text more may.within)) (IsUtf8-append (drop to text) more may.rest utf8);
    }

pub cut_kept : (from : ℕ) (es : List Ends) (text more : List ℕ) → AreEnds from es text → cut from es (text ++ more) ≡ cut from es text
cut_kept from [] text more are = refl
cut_kept from (e ∷ es) text more are =
    rw (range_kept text more from e.key are.0.rises are.0.within, range_kept text more e.key e.value are.1.rises are.1.within, cut_kept e.value es text more are.2) refl

-- ---- one more tag

module _ (text key value : List ℕ) (e : Ends) (key_utf8 : IsUtf8 key) (value_utf8 : IsUtf8 value) (at_key : e.key ≡ length text + length key) (at_value : e.value ≡ length text + length key + length value) where
  abbrev longer : List ℕ
  longer = text ++ (key ++ value)

  key_there : slice_range longer (length text) e.key ≡ key
  key_there =
      let count : e.key - length text ≡ length key = omega (arith, at_key) in
      ap (take (e.key - length text)) (drop-append_seam text (key ++ value)) ∙ ap (λ n. take n (key ++ value)) count ∙ take-append_seam key value

  after_key : drop e.key longer ≡ value
  after_key = ap (λ n. drop n longer) at_key ∙ drop-append-add text (key ++ value) (length key) ∙ drop-append_seam key value

  value_there : slice_range longer e.key e.value ≡ value
  value_there =
      let count : e.value - e.key ≡ length value = omega (arith, at_key, at_value) in
      ap (take (e.value - e.key)) after_key ∙ ap (λ n. take n value) count ∙ take-length value

  long : length longer ≡ length text + length key + length value
  long = omega (arith, length-append text (key ++ value), length-append key value)

  last : length text ≡ length text
  last = refl

  pub cut_more : (from : ℕ) (es : List Ends) → AreEnds from es text → cut from (es ++ e ∷ []) longer ≡ cut from es text ++ (key, value) ∷ []
  cut_more from [] are = rw (are, key_there, value_there) refl
  cut_more from (d ∷ es) are =
      rw (range_kept text (key ++ value) from d.key are.0.rises are.0.within, range_kept text (key ++ value) d.key d.value are.1.rises are.1.within, cut_more d.value es are.2) refl

  pub are_more : (from : ℕ) (es : List Ends) → AreEnds from es text → AreEnds from (es ++ e ∷ []) longer
  are_more from [] are = (
    record { rises = omega (arith, are, at_key); within = omega (arith, long, at_key); rest = subst IsUtf8 (sym after_key) value_utf8 },
    record { rises = omega (arith, at_key, at_value); within = omega (arith, long, at_value); rest = subst IsUtf8 (sym (ap (λ n. drop n longer) (at_value ∙ sym long) ∙ nothing longer)) IsUtf8-nil },
    at_value ∙ sym long,
  )
    where
      nothing : (xs : List ℕ) → drop (length xs) xs ≡ []
      nothing [] = refl
      nothing (x ∷ xs) = nothing xs
  are_more from (d ∷ es) are =
      let utf8 = IsUtf8-append key value key_utf8 value_utf8 in
      (may_still from d.key text (key ++ value) utf8 are.0, may_still d.key d.value text (key ++ value) utf8 are.1, are_more d.value es are.2)

-- a key and a value were put behind the text
pub record Grown (old : List ℕ) (es : List Ends) (key value new : List ℕ) (more : List Ends) : Type 0 where
  pub ends : AreEnds 0 more new
  pub tags : cut 0 more new ≡ cut 0 es old ++ (key, value) ∷ []

pub grown : (old : List ℕ) (es : List Ends) (key value middle new : List ℕ) (e : Ends) (more : List Ends) → IsUtf8 key → IsUtf8 value → AreEnds 0 es old
    → middle ≡ old ++ key → new ≡ middle ++ value → e.key ≡ length middle → e.value ≡ length new → more ≡ es ++ e ∷ [] → Grown old es key value new more
grown old es key value middle new e more key_utf8 value_utf8 are one two at_key at_value all =
    let whole : new ≡ old ++ (key ++ value) = two ∙ ap (λ t. t ++ value) one ∙ append_assoc old key value in
    let first : e.key ≡ length old + length key = at_key ∙ ap length one ∙ length-append old key in
    let second : e.value ≡ length old + length key + length value = at_value ∙ ap length two ∙ length-append middle value ∙ ap (λ n. n + length value) (ap length one ∙ length-append old key) in
    record {
      ends = rw (all, whole) (are_more old key value e key_utf8 value_utf8 first second 0 es are);
      tags = rw (all, whole) (cut_more old key value e key_utf8 value_utf8 first second 0 es are);
    }

-- ---- a tag by its place

pub record IsPair (from : ℕ) (es : List Ends) (text : List ℕ) (i : ℕ) (e : Ends) : Type 0 where
  pub begins : IsCharBoundary text (start_at from es i)
  pub key : MayCut (start_at from es i) e.key text
  pub value : MayCut e.key e.value text
  pub pair : (slice_range text (start_at from es i) e.key, slice_range text e.key e.value) ≡ get_or (cut from es text) i ([], [])

pub pair_at : (from : ℕ) (es : List Ends) (text : List ℕ) (i : ℕ) (d : Ends) → IsCharBoundary text from → AreEnds from es text → i < length es → IsPair from es text i (get_or es i d)
pair_at from [] text i d begins are lt = let never : ⊥ = omega arith in absurd never
pair_at from (e ∷ es) text zero d begins are lt = record { begins = begins; key = are.0; value = are.1; pair = refl }
pair_at from (e ∷ es) text (suc i) d begins are lt =
    let inner = pair_at e.value es text i d (IsCharBoundary-from_drop text e.value are.1.within are.1.rest) are.2 (omega arith) in
    record { begins = inner.begins; key = inner.key; value = inner.value; pair = inner.pair }

pub start_first : (from : ℕ) (es : List Ends) → start_at from es 0 ≡ from
start_first from [] = refl
start_first from (e ∷ es) = refl

pub start_before : (from : ℕ) (es : List Ends) (i : ℕ) (d : Ends) → i < length es → 0 < i → start_at from es i ≡ (get_or es (i - 1) d).value
start_before from [] i d lt some = let never : ⊥ = omega arith in absurd never
start_before from (e ∷ es) zero d lt some = let never : ⊥ = omega arith in absurd never
start_before from (e ∷ es) (suc zero) d lt some = start_first e.value es
start_before from (e ∷ es) (suc (suc i)) d lt some =
    let same : suc (suc i) - 1 ≡ suc (suc i - 1) = omega arith in
    start_before e.value es (suc i) d (omega arith) (omega arith) ∙ ap (λ n. (get_or (e ∷ es) n d).value) (sym same)

pub cut_count : (from : ℕ) (es : List Ends) (text : List ℕ) → length (cut from es text) ≡ length es
cut_count from [] text = refl
cut_count from (e ∷ es) text = ap suc (cut_count e.value es text)

-- ---- how many bytes

range_bytes : (text : List ℕ) (from to : ℕ) → MayCut from to text → from + length (slice_range text from to) ≡ to
range_bytes text from to may = omega (arith, length-take (to - from) (drop from text), length-drop from text, may.rises, may.within)

-- the pairs have all bytes from there on
pub cut_bytes : (from : ℕ) (es : List Ends) (text : List ℕ) → AreEnds from es text → from + byte_count (cut from es text) ≡ length text
cut_bytes from [] text are = omega (arith, are)
cut_bytes from (e ∷ es) text are =
    omega (arith, range_bytes text from e.key are.0, range_bytes text e.key e.value are.1, cut_bytes e.value es text are.2)
