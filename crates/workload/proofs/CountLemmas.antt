-- No more elements are counted than there are.
use Rattle.std.proofs.Common.{◌≡◌, ℕ, zero, suc, ◌≤◌, Bool, [], ◌∷◌, length, refl, ◌∙◌, arith, length-append}
use Rattle.std.specs.Prelude.{count_by}
use Rattle.std.proofs.lemmas.List.Sums.{count_by-le-length}
use Rattle.osm_base.specs.declared.keys.Kind.{Kind}
use Rattle.osm_base.specs.declared.keys.Key.{Key}
use Rattle.osm_element.specs.Elements.{key, keys_to}

length-keys_to : (kind : Kind) (n : ℕ) → length (keys_to kind n) ≡ n
length-keys_to kind zero = refl
length-keys_to kind (suc n) = length-append (keys_to kind n) (key kind (suc n) ∷ []) ∙ omega (arith, length-keys_to kind n)

pub few_counted : (p : Key → Bool) (kind : Kind) (n count : ℕ) → count ≡ count_by p (keys_to kind n) → count ≤ n
few_counted p kind n count counted = omega (arith, count_by-le-length p (keys_to kind n), length-keys_to kind n, counted)
