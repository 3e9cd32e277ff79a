-- Pieces in the buffer of a body.
use Rattle.std.proofs.Common.{◌≡◌, ℕ, ◌+◌, ◌≤◌, List, [], ◌∷◌, ◌++◌, length, take, drop, refl, sym, ap, ◌∙◌, arith, append-nil, take-add, take-take, take_at}
use Rattle.json.specs.Filled.{Placed}
use Rattle.json.specs.Print.{quoted, print, print_from}
use Rattle.json.specs.Token.{Token}
use Rattle.osm_json.specs.Added.{Grows}

-- bytes were placed behind the first len, through the slice of a vector that had been lengthened to `size`
pub placed_grows : (v₀ v₁ v₂ rest xs : List ℕ) (len n end size : ℕ) → len ≤ n → take n v₁ ≡ v₀ → length v₁ ≡ size → Placed v₁ v₂ len xs end
    → Grows (take len v₀) (take end (take size (v₂ ++ rest))) xs
placed_grows v₀ v₁ v₂ rest xs len n end size within e long p = record {
  bytes = ap (take end) (take_at v₂ rest size (p.len ∙ long)) ∙ p.bytes ∙ ap (λ (l : List ℕ). l ++ xs) (sym (take-take len n v₁ within) ∙ ap (take len) e);
}

-- digits that end at `end` and begin at `at`
pub placed_digits : (old new ds : List ℕ) (at start end : ℕ) → start + length ds ≡ end → end ≡ at + length ds → length new ≡ length old → drop start new ≡ ds ++ drop end old → take start new ≡ take start old → Placed old new at ds end
placed_digits old new ds at start end e f same written before =
    let start_is : start ≡ at = omega arith in
    record {
      bytes = ap (λ n. take n new) (sym e) ∙ take-add start (length ds) new
          ∙ (λ i. before i ++ take (length ds) (written i)) ∙ ap (λ (l : List ℕ). take start old ++ l) (take_at ds (drop end old) (length ds) refl)
          ∙ ap (λ n. take n old ++ ds) start_is;
      moved = f;
      len = same;
    }

-- what a writer holds that was given this text alone
pub written_alone : (before : List ℕ) (tokens : List Token) (s : List ℕ) → before ≡ [] → tokens ≡ Token.string s ∷ [] → before ++ print tokens ≡ quoted s
unfolding print_from
written_alone before tokens s e f = (λ i. e i ++ print (f i)) ∙ append-nil (quoted s)
