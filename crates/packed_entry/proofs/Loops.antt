-- Reading so many items one after the other, as a loop does.
use Rattle.std.proofs.Common.{◌≡◌, ℕ, suc, ◌-◌, ◌+◌, ◌≤◌, ◌<◌, List, [], ◌∷◌, ◌++◌, Some, None, refl, sym, ap, ◌∙◌, append_assoc, arith}
use Rattle.std.proofs.lemmas.List.{append-nil}
use Rattle.packed_entry.specs.declared.faults.Fault.{Fault}
use Rattle.packed_entry.specs.declared.faults.Fault.TheVariants.{Memory, Malformed}
use Rattle.packed_entry.specs.Read.{Parsed, ◌>>=◌, Fails, each_at}

-- what was read before, and what is still read
abbrev pub with_front : {X : Type 0} → List X → Parsed (List X) → Parsed (List X)
with_front front read = read >>= λ xs rest. Some (front ++ xs, rest)

-- so many of some more are read behind these, as all are from the start
abbrev pub IsLeft : {X : Type 0} → (List ℕ → Parsed X) → ℕ → ℕ → List X → List ℕ → List ℕ → Type 0
IsLeft one count i front bytes start = with_front front (each_at one (count - i) bytes) ≡ each_at one count start

regroup : {X : Type 0} (front : List X) (x : X) (read : Parsed (List X)) → with_front front (read >>= λ xs rest. Some (x ∷ xs, rest)) ≡ with_front (front ++ x ∷ []) read
regroup {X} front x (Some p) = ap (λ (xs : List X). Some (xs, p.1)) (simp append_assoc)
regroup front x None = refl

pub goes_on : {X : Type 0} (one : List ℕ → Parsed X) (count i : ℕ) (front longer : List X) (bytes after start : List ℕ) (x : X)
    → i < count → one bytes ≡ Some (x, after) → longer ≡ front ++ x ∷ [] → IsLeft one count i front bytes start → IsLeft one count (i + 1) longer after start
unfolding each_at
goes_on one count i front longer bytes after start x lt h is_longer so_far =
    let k : count - i ≡ suc (count - (i + 1)) = omega arith in
    let step : with_front front (each_at one (count - i) bytes) ≡ with_front (front ++ x ∷ []) (each_at one (count - (i + 1)) after) = rw (k, h) (regroup front x (each_at one (count - (i + 1)) after)) in
    rw is_longer (sym step ∙ so_far)

pub ends : {X : Type 0} (one : List ℕ → Parsed X) (count i : ℕ) (front : List X) (bytes start : List ℕ) (fault : Fault)
    → i < count → Fails fault (one bytes) → IsLeft one count i front bytes start → Fails fault (each_at one count start)
unfolding each_at
ends one count i front bytes start Memory lt h so_far = tt
ends one count i front bytes start Malformed lt h so_far =
    let k : count - i ≡ suc (count - (i + 1)) = omega arith in
    let none : with_front front (each_at one (count - i) bytes) ≡ None = rw (k, h) refl in
    sym so_far ∙ none

pub is_done : {X : Type 0} (one : List ℕ → Parsed X) (count i : ℕ) (front : List X) (bytes start : List ℕ) → count ≤ i → IsLeft one count i front bytes start → each_at one count start ≡ Some (front, bytes)
unfolding each_at
is_done {X} one count i front bytes start le so_far =
    let k : count - i ≡ 0 = omega arith in
    let last : with_front front (each_at one (count - i) bytes) ≡ Some (front, bytes) = rw k (ap (λ (xs : List X). Some (xs, bytes)) (append-nil front)) in
    sym so_far ∙ last
