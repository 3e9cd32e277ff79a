-- Whether a block has a head is decided, piece by piece of the grammar.
use Rattle.std.proofs.Common.{◌≡◌, ℕ, zero, suc, ◌+◌, ◌<◌, ◌≤◌, ◌⊎◌, inl, inr, Bool, true, false, List, [], ◌∷◌, ◌++◌, length, All, chars, encode_utf8_all, bytes_eq, IsUtf8, Decides, flat_map, refl, sym, ap, subst, subst₂, ◌∙◌, arith, append_assoc, length-append}
use Rattle.std.specs.Prelude.{⊤}
use Rattle.std.specs.Str.{all_scalars}
use Rattle.std.proofs.Math.Decide.{map_dec, dec_le, ℕ_discrete}
use Rattle.std.proofs.lemmas.Bool.{both_ways}
use Rattle.std.proofs.lemmas.List.Elements.{All-nil, All-cons, All-head, All-tail}
use Rattle.std.proofs.lemmas.Slice.Eq.{bytes_eq-Decides}
use Rattle.std.proofs.lemmas.Str.{encodes-chars, scalars-chars}
use Rattle.httparse.specs.Grammar.{is_token_byte, is_uri_byte, is_value_byte, AllPass, LineEnd, crlf, lf, print_end, print_version, Field, print_field, IsField, RequestHead, ReadsRequest}
use Rattle.httparse.specs.Pieces.{Piece, Begins, Then, Stops, is_newline, Bytes, Newline, Blank, Word, Method, Target, Version, Text, FieldLine, Section, RequestStart}
use Rattle.httparse.proofs.GrammarLemmas.{request_tree, request_head, request_pieces, request_from_pieces, request_unique}
use Rattle.httparse.proofs.PieceLemmas.{Newline_deterministic, Blank_deterministic, RequestStart_deterministic, Word_deterministic, Method_deterministic, Target_deterministic, Version_deterministic, Name_deterministic, FieldLine_deterministic, FieldLine_parts}
use Rattle.httparse.proofs.ReadLemmas.{FieldLine_done, Section_done}
use Rattle.osm_base.specs.declared.limits.TheConstants.{FIELD_LIMIT}
use Rattle.http_wire.specs.Head.{IsHeadOf}

-- whether a text has the form is decided
abbrev IsDecided : (List ℕ → Type 0) → Type 0
IsDecided H = (text : List ℕ) → Dec (H text)

-- a text begins with the piece in one way only
abbrev IsUnique : {A : Type 0} → Piece A → Type 0
IsUnique {A} G = (a b : A) (text r q : List ℕ) → G a text r → G b text q → (a ≡ b) × (r ≡ q)

-- ---- pieces in a row

then_decided : {A B : Type 0} (G : Piece A) (H : Piece B) → IsUnique G → IsDecided (Begins G) → IsDecided (Begins H)
    → IsDecided (Begins (Then G H))
then_decided G H unique first second text = by_first (first text)
  where
    by_second : (x : Begins G text) → Dec (Begins H x.1) → Dec (Begins (Then G H) text)
    by_second x (yes y) = yes ((x.0, y.0), y.1, (x.1, x.2, y.2))
    by_second x (no none) = no λ w.
        let same = unique w.0.0 x.0 text w.2.0 x.1 w.2.1 x.2 in
        none (w.0.1, w.1, subst (λ (m : List ℕ). H w.0.1 m w.1) same.1 w.2.2)

    by_first : Dec (Begins G text) → Dec (Begins (Then G H) text)
    by_first (yes x) = by_second x (second x.1)
    by_first (no none) = no (λ w. none (w.0.0, w.2.0, w.2.1))

-- the piece, and a fact of its tree and of the rest
abbrev With : {A : Type 0} → Piece A → (A → List ℕ → Type 0) → Piece A
With G P a text rest = G a text rest × P a rest

with_decided : {A : Type 0} (G : Piece A) (P : A → List ℕ → Type 0) → IsUnique G → ((a : A) (rest : List ℕ) → Dec (P a rest))
    → IsDecided (Begins G) → IsDecided (Begins (With G P))
with_decided G P unique holds decided text = by_piece (decided text)
  where
    by_fact : (x : Begins G text) → Dec (P x.0 x.1) → Dec (Begins (With G P) text)
    by_fact x (yes p) = yes (x.0, x.1, (x.2, p))
    by_fact x (no fails) = no λ w.
        let same = unique w.0 x.0 text w.1 x.1 w.2.0 x.2 in fails (subst₂ P same.0 same.1 w.2.1)

    by_piece : Dec (Begins G text) → Dec (Begins (With G P) text)
    by_piece (yes x) = by_fact x (holds x.0 x.1)
    by_piece (no none) = no (λ w. none (w.0, w.1, w.2.0))

-- ---- a piece again and again

-- a valid tree, printed, and then the rest
abbrev Printed : {A : Type 0} → (A → Type 0) → (A → List ℕ) → Piece A
Printed P print a text rest = P a × (text ≡ print a ++ rest)

-- valid trees, printed, and then a text of that form
abbrev ManyThen : {A : Type 0} → (A → Type 0) → (A → List ℕ) → (List ℕ → Type 0) → List ℕ → Type 0
ManyThen {A} P print H text =
    (trees : List A) × (rest : List ℕ) × All P trees × (text ≡ flat_map print trees ++ rest) × H rest

module _ {A : Type 0} (P : A → Type 0) (print : A → List ℕ) (H : List ℕ → Type 0) where
  ManyThen_parts : (text : List ℕ) → ManyThen P print H text
      → H text ⊎ ((x : Begins (Printed P print) text) × ManyThen P print H x.1)
  ManyThen_parts text ([], rest, all, is, h) = inl (subst H (sym is) h)
  ManyThen_parts text (a ∷ trees, rest, all, is, h) =
      inr (
        (a, flat_map print trees ++ rest, (All-head P a trees all, is ∙ append_assoc (print a) (flat_map print trees) rest)),
        (trees, rest, All-tail P a trees all, refl, h),
      )

  ManyThen_more : (text : List ℕ) (x : Begins (Printed P print) text) → ManyThen P print H x.1 → ManyThen P print H text
  ManyThen_more text (a, middle, (p, is)) (trees, rest, all, same, h) = (
    a ∷ trees,
    rest,
    All-cons P a trees p all,
    is ∙ ap (λ (l : List ℕ). print a ++ l) same ∙ sym (append_assoc (print a) (flat_map print trees) rest),
    h,
  )

module _ {A : Type 0} (P : A → Type 0) (print : A → List ℕ) (H : List ℕ → Type 0) (unique : IsUnique (Printed P print))
    (some : (a : A) → P a → 0 < length (print a)) (piece : IsDecided (Begins (Printed P print))) (last : IsDecided H) where
  -- by the length, since each piece has a byte at least
  many_within : (n : ℕ) (text : List ℕ) → length text < n → Dec (ManyThen P print H text)
  many_within zero text below = absurd (omega arith)
  many_within (suc n) text below =
      by (last text) (piece text) (λ rest shorter. many_within n rest (omega arith))
    where
      by_rest : ¬ (H text) → (x : Begins (Printed P print) text) → Dec (ManyThen P print H x.1) → Dec (ManyThen P print H text)
      by_rest none x (yes more) = yes (ManyThen_more P print H text x more)
      by_rest none x (no fails) = no λ w. elim (ManyThen_parts P print H text w) [
        | inl h ↦ none h
        | inr y ↦ fails (subst (ManyThen P print H) (unique y.0.0 x.0 text y.0.1 x.1 y.0.2 x.2).1 y.1)
      ]

      by : Dec (H text) → Dec (Begins (Printed P print) text)
          → ((rest : List ℕ) → length rest < length text → Dec (ManyThen P print H rest)) → Dec (ManyThen P print H text)
      by (yes h) d behind = yes ([], text, All-nil P, refl, h)
      by (no none) (no fails) behind = no λ w. elim (ManyThen_parts P print H text w) [ inl h ↦ none h | inr y ↦ fails y.0 ]
      by (no none) (yes x) behind =
          by_rest none x (behind x.1 (omega (arith, some x.0 x.2.0, ap length x.2.1, length-append (print x.0) x.1)))

  many_decided : IsDecided (ManyThen P print H)
  many_decided text = many_within (suc (length text)) text (omega arith)

-- ---- bytes

bytes_decided : (bytes : List ℕ) → IsDecided (Begins (Bytes bytes))
bytes_decided [] text = yes (tt, text, refl)
bytes_decided (b ∷ bytes) [] = no (λ w. cc)
bytes_decided (b ∷ bytes) (c ∷ text) = by (ℕ_discrete c b) (bytes_decided bytes text)
  where
    by : Dec (c ≡ b) → Dec (Begins (Bytes bytes) text) → Dec (Begins (Bytes (b ∷ bytes)) (c ∷ text))
    by (yes same) (yes x) = yes (tt, x.1, λ i. same i ∷ x.2 i)
    by (yes same) (no none) = no (λ w. none (tt, w.1, cc))
    by (no other) d = no (λ w. other (cc))

-- a piece that has two trees at most, printed as these bytes
two_decided : {A : Type 0} (G : Piece A) (x y : List ℕ) → ((rest : List ℕ) → Begins G (x ++ rest))
    → ((rest : List ℕ) → Begins G (y ++ rest))
    → ((a : A) (text rest : List ℕ) → G a text rest → Begins (Bytes x) text ⊎ Begins (Bytes y) text) → IsDecided (Begins G)
two_decided G x y by_x by_y only text = by (bytes_decided x text) (bytes_decided y text)
  where
    by : Dec (Begins (Bytes x) text) → Dec (Begins (Bytes y) text) → Dec (Begins G text)
    by (yes w) d = yes (subst (Begins G) (sym w.2) (by_x w.1))
    by (no not_x) (yes w) = yes (subst (Begins G) (sym w.2) (by_y w.1))
    by (no not_x) (no not_y) = no (λ w. elim (only w.0 text w.1 w.2) [ inl h ↦ not_x h | inr h ↦ not_y h ])

newline_decided : IsDecided (Begins Newline)
newline_decided =
    two_decided Newline (print_end crlf) (print_end lf) (λ rest. (crlf, rest, refl)) (λ rest. (lf, rest, refl)) only
  where
    only : (end : LineEnd) (text rest : List ℕ) → Newline end text rest
        → Begins (Bytes (print_end crlf)) text ⊎ Begins (Bytes (print_end lf)) text
    only crlf text rest h = inl (tt, rest, h)
    only lf text rest h = inr (tt, rest, h)

version_decided : IsDecided (Begins Version)
version_decided =
    two_decided Version (print_version 0) (print_version 1) (λ rest. (0, rest, (omega arith, refl)))
    (λ rest. (1, rest, (omega arith, refl))) only
  where
    only : (minor : ℕ) (text rest : List ℕ) → Version minor text rest
        → Begins (Bytes (print_version 0)) text ⊎ Begins (Bytes (print_version 1)) text
    only zero text rest h = inl (tt, rest, h.1)
    only (suc zero) text rest h = inr (tt, rest, h.1)
    only (suc (suc minor)) text rest h = absurd (omega (arith, h.0))

-- a byte that passes the test
abbrev Passing : (ℕ → Bool) → Piece ℕ
Passing test = Printed (λ b. test b ≡ true) (λ b. b ∷ [])

passing_unique : (test : ℕ → Bool) → IsUnique (Passing test)
passing_unique test a b text r q x y = (cc, cc)

passing_decided : (test : ℕ → Bool) → IsDecided (Begins (Passing test))
passing_decided test [] = no (λ w. cc)
passing_decided test (b ∷ text) = by (test b) refl
  where
    by : (t : Bool) → test b ≡ t → Dec (Begins (Passing test) (b ∷ text))
    by true passes = yes (b, text, (passes, refl))
    by false fails = no λ w. let same : w.0 ≡ b = cc in both_ways _ fails (subst (λ (c : ℕ). test c ≡ true) same w.2.0)

-- bytes that pass the test, and then a text of that form
abbrev RunThen : (ℕ → Bool) → (List ℕ → Type 0) → List ℕ → Type 0
RunThen test H text = (run : List ℕ) × (rest : List ℕ) × AllPass test run × (text ≡ run ++ rest) × H rest

one_by_one : (bytes : List ℕ) → flat_map (λ b. b ∷ []) bytes ≡ bytes
one_by_one [] = refl
one_by_one (b ∷ bytes) = ap (λ (l : List ℕ). b ∷ l) (one_by_one bytes)

run_decided : (test : ℕ → Bool) (H : List ℕ → Type 0) → IsDecided H → IsDecided (RunThen test H)
run_decided test H last text =
    map_dec
    (λ w. (w.0, w.1, w.2, w.3 ∙ ap (λ (l : List ℕ). l ++ w.1) (one_by_one w.0), w.4))
    (λ w. (w.0, w.1, w.2, w.3 ∙ ap (λ (l : List ℕ). l ++ w.1) (sym (one_by_one w.0)), w.4))
    (many_decided (λ b. test b ≡ true) (λ b. b ∷ []) H (passing_unique test) (λ a p. omega arith) (passing_decided test) last text)

word_parts : (test : ℕ → Bool) (stop b : ℕ) (text : List ℕ) → Begins (Word test stop) (b ∷ text)
    → (test b ≡ true) × RunThen test (Begins (Bytes (stop ∷ []))) text
word_parts test stop b text ([], rest, h) = absurd (omega (arith, h.0))
word_parts test stop b text (c ∷ word, rest, h) =
    let passes = All-head (λ v. test v ≡ true) c word h.1 in
    (cc, (word, stop ∷ rest, All-tail (λ v. test v ≡ true) c word h.1, cc, (tt, rest, refl)))

word_decided : (test : ℕ → Bool) (stop : ℕ) → IsDecided (Begins (Word test stop))
word_decided test stop [] = no (λ w. let some = w.2.0 in omega (arith, ap length w.2.2, length-append w.0 (stop ∷ w.1)))
word_decided test stop (b ∷ text) =
    by (test b) refl (run_decided test (Begins (Bytes (stop ∷ []))) (bytes_decided (stop ∷ [])) text)
  where
    by : (t : Bool) → test b ≡ t → Dec (RunThen test (Begins (Bytes (stop ∷ []))) text) → Dec (Begins (Word test stop) (b ∷ text))
    by true passes (yes (run, rest, all, is, stopped)) =
        yes (b ∷ run, stopped.1, (omega arith, All-cons (λ v. test v ≡ true) b run passes all, cc))
    by true passes (no none) = no (λ w. none (word_parts test stop b text w).1)
    by false fails d = no (λ w. both_ways _ fails (word_parts test stop b text w).0)

text_decided : IsDecided (Begins Text)
text_decided text =
    map_dec
    (λ w. ((w.0, w.4.0), w.4.1, (w.2, w.3 ∙ ap (λ (l : List ℕ). w.0 ++ l) w.4.2)))
    (λ w. (w.0.0, print_end w.0.1 ++ w.1, w.2.0, w.2.1, (w.0.1, w.1, refl)))
    (run_decided is_value_byte (Begins Newline) newline_decided text)

-- bytes are UTF-8 exactly where the characters that they would spell give them back
utf8_decided : (bytes : List ℕ) → Dec (IsUtf8 bytes)
utf8_decided bytes =
    by (all_scalars (chars bytes)) refl (bytes_eq (encode_utf8_all (chars bytes)) bytes) (bytes_eq-Decides (encode_utf8_all (chars bytes)) bytes)
  where
    by : (s : Bool) → all_scalars (chars bytes) ≡ s → (t : Bool) → Decides t (encode_utf8_all (chars bytes) ≡ bytes) → Dec (IsUtf8 bytes)
    by true scalars true same = yes (chars bytes, (scalars, same.0 refl))
    by true scalars false same = no (λ u. both_ways _ refl (same.1 (encodes-chars bytes u)))
    by false fails t same = no (λ u. both_ways _ fails (scalars-chars bytes u))

-- ---- the pieces of a request

blank_decided : IsDecided (Begins Blank)
blank_decided text =
    map_dec (λ w. (w.0, w.1, (w.3, w.4))) (λ w. (w.0, w.1, (λ i below x. tt), w.2.0, w.2.1))
    (many_decided (λ end. ⊤) print_end (Stops is_newline) unique some_bytes piece stops text)
  where
    unique : IsUnique (Printed (λ (end : LineEnd). ⊤) print_end)
    unique a b text r q x y = Newline_deterministic.unique a b text r q x.1 y.1

    some_bytes : (end : LineEnd) → ⊤ → 0 < length (print_end end)
    some_bytes crlf valid = omega arith
    some_bytes lf valid = omega arith

    piece : IsDecided (Begins (Printed (λ (end : LineEnd). ⊤) print_end))
    piece text = map_dec (λ x. (x.0, x.1, (tt, x.2))) (λ x. (x.0, x.1, x.2.1)) (newline_decided text)

    stops : IsDecided (Stops is_newline)
    stops [] = no (λ none. none)
    stops (b ∷ text) = by (is_newline b) refl
      where
        by : (t : Bool) → is_newline b ≡ t → Dec (is_newline b ≡ false)
        by true is = no (λ fails. both_ways _ fails is)
        by false is = yes is

target_decided : IsDecided (Begins Target)
target_decided =
    with_decided (Word is_uri_byte 32) (λ target rest. IsUtf8 target) (Word_deterministic is_uri_byte 32 refl).unique
    (λ target rest. utf8_decided target) (word_decided is_uri_byte 32)

start_decided : IsDecided (Begins RequestStart)
start_decided =
    then_decided Blank (Then Method (Then Target (Then Version Newline))) Blank_deterministic.unique blank_decided
    (then_decided Method (Then Target (Then Version Newline)) Method_deterministic.unique (word_decided is_token_byte 32)
    (then_decided Target (Then Version Newline) Target_deterministic.unique target_decided
    (then_decided Version Newline Version_deterministic.unique version_decided newline_decided)))

field_decided : IsDecided (Begins FieldLine)
field_decided text =
    map_dec
    (λ w. (
      record { name = w.0.0; raw = w.0.1.0; end = w.0.1.1 },
      w.1,
      FieldLine_done w.0.0 w.0.1.0 w.0.1.1 text w.2.0 w.1 w.2.1 w.2.2,
    ))
    (λ w. ((w.0.name, (w.0.raw, w.0.end)), w.1, FieldLine_parts w.0 text w.1 w.2))
    (then_decided (Word is_token_byte 58) Text Name_deterministic.unique (word_decided is_token_byte 58) text_decided text)

section_decided : IsDecided (Begins Section)
section_decided text =
    map_dec
    (λ w. ((w.0, w.4.0), w.4.1, Section_done w.0 w.4.0 text w.1 w.4.1 (w.2, w.3) w.4.2))
    (λ w. (
      w.0.0,
      print_end w.0.1 ++ w.1,
      w.2.0,
      w.2.1 ∙ append_assoc (flat_map print_field w.0.0) (print_end w.0.1) w.1,
      (w.0.1, w.1, refl),
    ))
    (many_decided IsField print_field (Begins Newline) FieldLine_deterministic.unique some_bytes field_decided newline_decided text)
  where
    some_bytes : (f : Field) → IsField f → 0 < length (print_field f)
    some_bytes f valid =
        let size : length (print_field f) ≡ length (f.name ++ 58 ∷ f.raw) + length (print_end f.end) =
        length-append (f.name ++ 58 ∷ f.raw) (print_end f.end) in
        omega (arith, size, length-append f.name (58 ∷ f.raw), valid.name.0)

-- a request head, and then the rest
abbrev Request : Piece RequestHead
Request head text rest = ReadsRequest text head rest

request_decided : IsDecided (Begins Request)
request_decided text =
    map_dec
    (λ w. (request_head w.0, w.1, request_from_pieces text w.0 w.1 w.2))
    (λ w. (request_tree w.0, w.1, request_pieces text w.0 w.1 w.2))
    (then_decided RequestStart Section RequestStart_deterministic.unique start_decided section_decided text)

pub head_decided : (block : List ℕ) → Dec ((head : RequestHead) × IsHeadOf block head)
head_decided block =
    map_dec
    (λ w. (w.0, record { reads = subst (ReadsRequest block w.0) w.2.1.0 w.2.0; few_fields = w.2.1.1 }))
    (λ w. (w.0, [], (w.1.reads, (refl, w.1.few_fields))))
    (with_decided Request (λ head rest. (rest ≡ []) × (length head.fields ≤ FIELD_LIMIT)) unique fits request_decided block)
  where
    unique : IsUnique Request
    unique a b text r q x y = request_unique text a b r q x y

    fits : (head : RequestHead) (rest : List ℕ) → Dec ((rest ≡ []) × (length head.fields ≤ FIELD_LIMIT))
    fits head [] = map_dec (λ few. (refl, few)) (λ p. p.1) (dec_le (length head.fields) FIELD_LIMIT)
    fits head (b ∷ rest) = no (λ p. let empty = p.0 in cc)
