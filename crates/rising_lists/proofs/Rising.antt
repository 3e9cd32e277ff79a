-- Lists of keys that are in order as they come.
use Rattle.std.proofs.Common.{◌≡◌, ℕ, zero, suc, ◌+◌, ◌<◌, true, sym, List, [], ◌∷◌, length, take, get_or, arith, subst}
use Rattle.osm_base.specs.Key.{key_lt, IsAfter, IsRising}
use Rattle.osm_base.specs.declared.keys.Key.{Key}
use Rattle.osm_base.proofs.KeyOrder.{key_lt-trans}

after-next :
    (x : Key) (xs : List Key) (i : ℕ) (d : Key)
    → suc i < length xs
    → key_lt (get_or xs i d) (get_or xs (suc i) d) ≡ true
    → IsAfter x (take (suc i) xs)
    → IsAfter x (take (suc (suc i)) xs)
after-next x [] i d within less after = absurd (omega (arith, within))
after-next x (y ∷ []) i d within less after = absurd (omega (arith, within))
after-next x (y ∷ z ∷ zs) zero d within less after = (after.0, (key_lt-trans x y z after.0 less, tt))
after-next x (y ∷ z ∷ zs) (suc i) d within less after = (after.0, after-next x (z ∷ zs) i d (omega (arith, within)) less after.1)

-- one key more, which comes after the last
rising-next :
    (xs : List Key) (i : ℕ) (d : Key)
    → suc i < length xs
    → key_lt (get_or xs i d) (get_or xs (suc i) d) ≡ true
    → IsRising (take (suc i) xs)
    → IsRising (take (suc (suc i)) xs)
rising-next [] i d within less up = absurd (omega (arith, within))
rising-next (x ∷ []) i d within less up = absurd (omega (arith, within))
rising-next (x ∷ y ∷ ys) zero d within less up = ((less, tt), (tt, tt))
rising-next (x ∷ y ∷ ys) (suc i) d within less up =
    (after-next x (y ∷ ys) i d (omega (arith, within)) less up.0, rising-next (y ∷ ys) i d (omega (arith, within)) less up.1)

pub rising_more :
    (xs : List Key) (i : ℕ) (d : Key)
    → i + 1 < length xs
    → key_lt (get_or xs i d) (get_or xs (i + 1) d) ≡ true
    → IsRising (take (i + 1) xs)
    → IsRising (take (i + 1 + 1) xs)
rising_more xs i d within less up =
    subst (λ (n : ℕ). IsRising (take n xs)) two
    (rising-next xs i d (omega (arith, within))
    (subst (λ (n : ℕ). key_lt (get_or xs i d) (get_or xs n d) ≡ true) (sym one) less)
    (subst (λ (n : ℕ). IsRising (take n xs)) (sym one) up))
  where
    one : suc i ≡ i + 1
    one = omega arith

    two : suc (suc i) ≡ i + 1 + 1
    two = omega arith
