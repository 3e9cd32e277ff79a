-- What the calls of a device and their crashes leave of a text with zeros behind it.
use Rattle.std.proofs.Common.{◌≡◌, ◌⊎◌, inl, inr, ⊎_elim, ℕ, zero, suc, ◌+◌, ◌-◌, ◌<◌, ◌≤◌, List, [], ◌∷◌, ◌++◌, length, get_or, take, drop, refl, sym, ap, ◌∙◌, subst, arith, append_assoc, append-nil, length-append, length-drop, length-take}
use Rattle.std.specs.Prelude.{replicate}
use Rattle.std.proofs.lemmas.List.{take_at, take-append-le, drop_at, drop-drop, get_or_append_left, get_or-append_right, length-replicate, replicate-append-replicate, drop-replicate}
use Rattle.std.proofs.lemmas.Bool.{cases_lt}
use Rattle.journal_file.specs.Device.{Holds, Mixed}
use Rattle.journal_file.specs.Whole.{whole, text_of, rest_of, AreLines, IsBatch, IsRaw}
use Rattle.journal_file.specs.Settled.{IsRoomy, IsSettled, IsDamaged, BeginsOddly, HasMoreBehind, Stands, HasSome, IsSealed}
use Rattle.journal_file.proofs.Lines.{raw_text, raw_rest, raw_batch, batch_lines, lines_more}
use Rattle.journal_file.proofs.Mixes.{Fewer, fewer_each, fronts, mix_even, mix_single, zeros_stop, zeros_even, zeros_single}

abbrev pub zeros : ℕ → List ℕ
zeros n = replicate n 0

-- ---- zeros behind

pub roomy_text : (text file : List ℕ) → IsRoomy text file → text_of file ≡ text
roomy_text text file roomy =
    ap text_of roomy.is ∙ raw_text roomy.raw text (zeros roomy.room) roomy.stands ∙ ap (λ (l : List ℕ). text ++ l) (zeros_stop roomy.room).0 ∙ append-nil text

roomy_sound : (text file : List ℕ) → IsRoomy text file → IsDamaged file → ⊥
roomy_sound text file roomy =
    let rest = ap rest_of roomy.is ∙ raw_rest roomy.raw text (zeros roomy.room) roomy.stands ∙ (zeros_stop roomy.room).1 in
    ⊎_elim (λ (begins : BeginsOddly (rest_of file)). zeros_even roomy.room (subst BeginsOddly rest begins)) (λ (has : HasMoreBehind (rest_of file)). zeros_single roomy.room (subst HasMoreBehind rest has))

pub roomy_stands : (text file : List ℕ) → IsRoomy text file → Stands text file
roomy_stands text file roomy = record { is = roomy_text text file roomy; sound = roomy_sound text file roomy }

pub roomier : (text old new : List ℕ) (count : ℕ) (roomy : IsRoomy text old) → new ≡ old ++ zeros count → (r : IsRoomy text new) × (r.raw ≡ roomy.raw)
roomier text old new count roomy is = (
  record {
    raw = roomy.raw;
    room = roomy.room + count;
    stands = roomy.stands;
    is =
        is
        ∙ ap (λ (l : List ℕ). l ++ zeros count) roomy.is
        ∙ append_assoc roomy.raw (zeros roomy.room) (zeros count)
        ∙ ap (λ (l : List ℕ). roomy.raw ++ l) (replicate-append-replicate roomy.room count 0);
  },
  refl,
)

-- ---- a batch is written over the zeros

put_at : (front back bytes new : List ℕ) (n : ℕ) → n ≡ length front → Holds (front ++ back) n bytes new → new ≡ front ++ (bytes ++ drop (length bytes) back)
put_at front back bytes new n is holds =
    let k = length bytes in
    let rest : drop (n + k) (front ++ back) ≡ drop k back = sym (drop-drop k n (front ++ back)) ∙ ap (λ (l : List ℕ). drop k l) (drop_at front back n (sym is)) in
    holds
    ∙ ap (λ (l : List ℕ). l ++ bytes ++ drop (n + k) (front ++ back)) (take_at front back n (sym is))
    ∙ ap (λ (l : List ℕ). front ++ bytes ++ l) rest
    ∙ append_assoc front bytes (drop k back)

-- what a write over zeros comes to
pub over_zeros : (raw bytes new : List ℕ) (n k : ℕ) → n ≡ length raw → Holds (raw ++ zeros k) n bytes new → new ≡ raw ++ (bytes ++ zeros (k - length bytes))
over_zeros raw bytes new n k size holds = put_at raw (zeros k) bytes new n size holds ∙ ap (λ (l : List ℕ). raw ++ (bytes ++ l)) (drop-replicate (length bytes) k 0)

pub written_roomy : (text batch old new : List ℕ) (n : ℕ) (roomy : IsRoomy text old) → n ≡ length roomy.raw → IsBatch batch → Holds old n batch new
    → (r : IsRoomy (text ++ whole batch) new) × (n + length batch ≡ length r.raw)
written_roomy text batch old new n roomy size ends holds =
    let k = roomy.room in
    let put = over_zeros roomy.raw batch new n k size (subst (λ (l : List ℕ). Holds l n batch new) roomy.is holds) in (
      record {
        raw = roomy.raw ++ batch;
        room = k - length batch;
        stands = raw_batch roomy.raw text batch roomy.stands ends;
        is = put ∙ sym (append_assoc roomy.raw batch (zeros (k - length batch)));
      },
      omega (arith, size, length-append roomy.raw batch),
    )

-- the same, told by what was there
pub written_taken : (text batch old new : List ℕ) (n : ℕ) (roomy : IsRoomy text old) → n ≡ length roomy.raw → Holds old n batch new
    → (left : ℕ) × (new ≡ take n old ++ (batch ++ zeros left))
written_taken text batch old new n roomy size holds =
    let front = ap (λ (l : List ℕ). take n l) roomy.is ∙ take_at roomy.raw (zeros roomy.room) n (sym size) in (
      roomy.room - length batch,
      over_zeros roomy.raw batch new n roomy.room size (subst (λ (l : List ℕ). Holds l n batch new) roomy.is holds)
          ∙ ap (λ (l : List ℕ). l ++ (batch ++ zeros (roomy.room - length batch))) (sym front),
    )

pub taken_same : (text old new : List ℕ) (n count : ℕ) (roomy : IsRoomy text old) → n ≡ length roomy.raw → new ≡ old ++ zeros count → take n new ≡ take n old
taken_same text old new n count roomy size is =
    let inside : n ≤ length old = omega (arith, size, ap length roomy.is, length-append roomy.raw (zeros roomy.room)) in
    ap (λ (l : List ℕ). take n l) is ∙ take-append-le n old (zeros count) inside

pub holds_long : (old batch new : List ℕ) (n : ℕ) → n + length batch ≤ length old → Holds old n batch new → length new ≡ length old
holds_long old batch new n within holds =
    omega (arith, ap length holds, length-append (take n old ++ batch) (drop (n + length batch) old), length-append (take n old) batch, length-take n old, length-drop (n + length batch) old)

-- two batches of no lines, one after the other
pub taken_two : (old mid new : List ℕ) (n first left : ℕ) → n ≤ length old → mid ≡ take n old ++ (10 ∷ zeros first) → new ≡ take (n + 1) mid ++ (10 ∷ zeros left)
    → new ≡ take n old ++ 10 ∷ 10 ∷ zeros left
taken_two old mid new n first left inside one two =
    let front = take n old in
    let size : n + 1 ≡ length (front ++ 10 ∷ []) = omega (arith, length-take n old, inside, length-append front (10 ∷ [])) in
    two
    ∙ ap (λ (l : List ℕ). take (n + 1) l ++ (10 ∷ zeros left)) (one ∙ sym (append_assoc front (10 ∷ []) (zeros first)))
    ∙ ap (λ (l : List ℕ). l ++ (10 ∷ zeros left)) (take_at (front ++ 10 ∷ []) (zeros first) (n + 1) (sym size))
    ∙ append_assoc front (10 ∷ []) (10 ∷ zeros left)

-- what stands behind bytes that are as they were, where each byte behind is as it was to be, or 0
record Behind (raw a c : List ℕ) : Type 0 where
  found : List ℕ
  is : c ≡ raw ++ found
  size : length found ≡ length a
  each : (i : ℕ) → (get_or found i 0 ≡ get_or a i 0) ⊎ (get_or found i 0 ≡ 0)

behind : (raw a c : List ℕ) → length c ≡ length (raw ++ a) → ((i : ℕ) → (get_or c i 0 ≡ get_or (raw ++ a) i 0) ⊎ ((length raw ≤ i) × (get_or c i 0 ≡ 0))) → Behind raw a c
behind [] a c same each = record { found = c; is = refl; size = same; each = λ i. ⊎_elim (λ is. inl is) (λ p. inr p.1) (each i) }
behind (t ∷ raw) a [] same each = absurd (omega arith)
behind (t ∷ raw) a (x ∷ c) same each =
    let head : x ≡ t = ⊎_elim (λ is. is) (λ p. absurd (omega (arith, p.0))) (each 0) in
    let again = behind raw a c (omega arith) (λ i. ⊎_elim (λ is. inl is) (λ p. inr (omega (arith, p.0), p.1)) (each (suc i))) in
    record {
      found = again.found;
      is = ap (λ (y : ℕ). y ∷ c) head ∙ ap (λ (l : List ℕ). t ∷ l) again.is;
      size = again.size;
      each = again.each;
    }

zero_at : (n i : ℕ) → get_or (zeros n) i 0 ≡ 0
zero_at zero i = refl
zero_at (suc n) zero = refl
zero_at (suc n) (suc i) = zero_at n i

-- some of the bytes are there, and the others are still zeros
pub mixed_over : (raw bytes c : List ℕ) (n k : ℕ) → n ≡ length raw → length bytes ≤ k → Mixed n bytes (raw ++ zeros k) c
    → (m : List ℕ) × (c ≡ raw ++ m) × Fewer (bytes ++ zeros (k - length bytes)) m
mixed_over raw bytes c n k size within mixed =
    let j = k - length bytes in
    let none : List ℕ = zeros j in
    let a = bytes ++ none in
    let old : List ℕ = raw ++ zeros k in
    let old_long : length old ≡ n + k = omega (arith, size, length-append raw (zeros k), length-replicate {A = ℕ} k 0) in
    let new_long : length (raw ++ a) ≡ n + k = omega (arith, size, within, length-append raw a, length-append bytes none, length-replicate {A = ℕ} j 0) in
    let was : (i : ℕ) → get_or c i 0 ≡ get_or old i 0 → (get_or c i 0 ≡ get_or (raw ++ a) i 0) ⊎ ((length raw ≤ i) × (get_or c i 0 ≡ 0)) =
    λ i is.
    ⊎_elim (λ (less : i < length raw). inl (is ∙ get_or_append_left raw (zeros k) 0 i less ∙ sym (get_or_append_left raw a 0 i less)))
    (λ (past : length raw ≤ i). inr (past, is ∙ get_or-append_right raw (zeros k) (length raw) i 0 refl past ∙ zero_at k (i - length raw)))
    (cases_lt i (length raw)) in
    let written : (i : ℕ) → (n ≤ i) × (i < n + length bytes) × (get_or c i 0 ≡ get_or bytes (i - n) 0) → (get_or c i 0 ≡ get_or (raw ++ a) i 0) ⊎ ((length raw ≤ i) × (get_or c i 0 ≡ 0)) =
    λ i p. let less : i - n < length bytes = omega (arith, p.0, p.1) in
    inl (p.2 ∙ sym (get_or_append_left bytes none 0 (i - n) less) ∙ sym (get_or-append_right raw a n i 0 (sym size) p.0)) in
    let found = behind raw a c (mixed.size ∙ old_long ∙ sym new_long) (λ i. ⊎_elim (was i) (written i) (mixed.each i)) in
    (found.found, found.is, fewer_each a found.found found.size found.each)

-- a beginning of the lines counts then, and no crash makes damage
pub mixed_some : (text batch old c : List ℕ) (n : ℕ) (roomy : IsRoomy text old) → n ≡ length roomy.raw → IsBatch batch → n + length batch ≤ length old → Mixed n batch old c
    → HasSome text (whole batch) c
mixed_some text batch old c n roomy size ends within mixed =
    let raw = roomy.raw in
    let k = roomy.room in
    let lines = whole batch in
    let are = batch_lines batch in
    let j = k - length batch in
    let old_long : length old ≡ n + k = omega (arith, size, ap length roomy.is, length-append raw (zeros k), length-replicate {A = ℕ} k 0) in
    let over = mixed_over raw batch c n k size (omega (arith, old_long, within)) (subst (λ (l : List ℕ). Mixed n batch l c) roomy.is mixed) in
    let m = over.0 in
    let written : batch ++ zeros j ≡ lines ++ 10 ∷ zeros j = ap (λ (l : List ℕ). l ++ zeros j) ends ∙ append_assoc lines (10 ∷ []) (zeros j) in
    let fewer = subst (λ (l : List ℕ). Fewer l m) written over.2 in
    let front = (fronts (lines ++ 10 ∷ zeros j) m fewer).0 in
    let all : whole (lines ++ 10 ∷ zeros j) ≡ lines = lines_more lines (10 ∷ zeros j) are ∙ ap (λ (l : List ℕ). lines ++ l) (zeros_stop j).0 ∙ append-nil lines in
    let rest = ap rest_of over.1 ∙ raw_rest raw text m roomy.stands in
    record {
      some = whole m;
      rest = front.0;
      whole = batch_lines m;
      front = sym all ∙ front.1;
      is = ap text_of over.1 ∙ raw_text raw text m roomy.stands;
      sound = ⊎_elim (λ (begins : BeginsOddly (rest_of c)). mix_even lines m j are fewer (subst BeginsOddly rest begins)) (λ (has : HasMoreBehind (rest_of c)). mix_single lines m j are fewer (subst HasMoreBehind rest has));
    }

-- none of the lines
pub none_yet : (text lines c : List ℕ) → Stands text c → HasSome text lines c
none_yet text lines c stands = record { some = []; rest = lines; whole = refl; front = refl; is = stands.is ∙ sym (append-nil text); sound = stands.sound }

-- of no lines nothing is there
pub some_of_none : (text c : List ℕ) → HasSome text [] c → Stands text c
some_of_none text c has = record { is = has.is ∙ ap (λ (l : List ℕ). text ++ l) (none has.some has.rest has.front) ∙ append-nil text; sound = has.sound }
  where
    none : (some rest : List ℕ) → [] ≡ some ++ rest → some ≡ []
    none [] rest is = refl
    none (x ∷ some) rest is = absurd (cc)

-- ---- settled files

pub settled_text : (seen : List ℕ) (may_leave : List ℕ → Type 0) (n : ℕ) (text : List ℕ) → IsSettled seen may_leave n text → text_of seen ≡ text
settled_text seen may_leave n text settled = roomy_text text seen settled.roomy

pub settled_now : (seen : List ℕ) (may_leave : List ℕ → Type 0) (n : ℕ) (text : List ℕ) → IsSettled seen may_leave n text → IsSettled seen may_leave n (text_of seen)
settled_now seen may_leave n text settled = subst (IsSettled seen may_leave n) (sym (settled_text seen may_leave n text settled)) settled

-- what a crash leaves of it stands for the text
pub settled_stands : (seen : List ℕ) (may_leave : List ℕ → Type 0) (n : ℕ) (text : List ℕ) → IsSettled seen may_leave n text → (c : List ℕ) → may_leave c → Stands text c
settled_stands seen may_leave n text settled c left = subst (Stands text) (sym (settled.durable c left)) (roomy_stands text seen settled.roomy)

-- two empty lines more
pub sealed_is : (text old new : List ℕ) (n left : ℕ) (roomy : IsRoomy text old) → n ≡ length roomy.raw → new ≡ take n old ++ 10 ∷ 10 ∷ zeros left → IsSealed text old new
sealed_is text old new n left roomy size is = record {
  raw = roomy.raw;
  room = roomy.room;
  left = left;
  stands = roomy.stands;
  was = roomy.is;
  is =
      is
      ∙ ap (λ (l : List ℕ). take n l ++ 10 ∷ 10 ∷ zeros left) roomy.is
      ∙ ap (λ (l : List ℕ). l ++ 10 ∷ 10 ∷ zeros left) (take_at roomy.raw (zeros roomy.room) n (sym size));
}
