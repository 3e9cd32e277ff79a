-- An item changed in its place.
use Rattle.std.proofs.Common.{◌≡◌, ℕ, zero, suc, ◌<◌, List, [], ◌∷◌, ◌++◌, length, get_or, Some, Bool, false, refl, sym, ap, ◌∙◌, arith}
use Rattle.std.specs.Prelude.{slice_get, slice_set, ◌==◌, if◌then◌else◌}
use Rattle.std.proofs.lemmas.Bool.Decides.{nat_tests}
use Rattle.std.proofs.lemmas.Option.{get_or_from_slice_get}
use Rattle.osm_element.specs.Version.{Version}
use Rattle.osm_element.specs.Elements.{add_version}

-- an item that is left as it was
pub set_same : {X : Type 0} (xs : List X) (place : ℕ) (x : X) → slice_get xs place ≡ Some x → slice_set xs place x ≡ xs
set_same [] place x there = refl
set_same {X = X} (y ∷ xs) zero x there = let e : y ≡ x = cc in ap (λ (z : X). z ∷ xs) (sym e)
set_same {X = X} (y ∷ xs) (suc place) x there = ap (λ (l : List X). y ∷ l) (set_same xs place x there)

-- one version more of a history that is there
pub add_version_within :
    (hs : List (List Version)) (place : ℕ) (h : List Version) (v : Version)
    → place < length hs
    → slice_get hs place ≡ Some h
    → add_version hs place v ≡ slice_set hs place (h ++ v ∷ [])
add_version_within hs place h v within here =
    let below : (place == length hs) ≡ false = grind (arith, nat_tests) in
    ap (λ (b : Bool). if b then hs ++ (v ∷ []) ∷ [] else slice_set hs place (get_or hs place [] ++ v ∷ [])) below
    ∙ ap (λ (old : List Version). slice_set hs place (old ++ v ∷ [])) (get_or_from_slice_get hs place h [] here)
