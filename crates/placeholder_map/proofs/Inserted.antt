-- What the inserts of a binding leave.
use Rattle.std.proofs.Common.{◌≡◌, ℕ, ℤ, Bool, true, false, cond, [], ◌∷◌, ◌++◌, None, Some, is_some, refl, sym, ap, ◌∙◌}
use Rattle.std.specs.Ordering.{int_eq}
use Rattle.indexmap.specs.IndexMap.{IndexMap, get, insert_entry}
use Rattle.indexmap.proofs.CallerLemmas.{insert_entry-new}
use Rattle.placeholder_map.specs.Bindings.{Bindings, place_in, with_binding, is_bound_in}

pub inserted-new : {S : Type 0} (m : IndexMap ℤ ℕ S) (placeholder : ℤ) (place : ℕ) → get int_eq m placeholder ≡ None → insert_entry int_eq m.entries placeholder place ≡ with_binding m.entries placeholder place
inserted-new m placeholder place none =
    let b : is_bound_in m.entries placeholder ≡ false = ap is_some none in
    insert_entry-new int_eq m placeholder place none ∙ sym (ap (λ (o : Bool). cond o m.entries (m.entries ++ (placeholder, place) ∷ [])) b)

pub bound-stays : (bindings : Bindings) (placeholder : ℤ) (place earlier : ℕ) → place_in bindings placeholder ≡ Some earlier → with_binding bindings placeholder place ≡ bindings
bound-stays bindings placeholder place earlier e =
    let b : is_bound_in bindings placeholder ≡ true = ap is_some e in
    ap (λ (o : Bool). cond o bindings (bindings ++ (placeholder, place) ∷ [])) b

pub inserted-back : (bindings : Bindings) (placeholder : ℤ) (place earlier : ℕ) → place_in bindings placeholder ≡ Some earlier → insert_entry int_eq (insert_entry int_eq bindings placeholder place) placeholder earlier ≡ bindings
inserted-back [] placeholder place earlier e = absurd (cc)
inserted-back ((p, n) ∷ rest) placeholder place earlier e = at (inserted-back rest placeholder place earlier) (int_eq placeholder p) refl
  where
    at : (place_in rest placeholder ≡ Some earlier → insert_entry int_eq (insert_entry int_eq rest placeholder place) placeholder earlier ≡ rest) → (b : Bool) → int_eq placeholder p ≡ b → insert_entry int_eq (insert_entry int_eq ((p, n) ∷ rest) placeholder place) placeholder earlier ≡ (p, n) ∷ rest
    at later true same =
        let here : Some n ≡ Some earlier = sym (ap (λ (b : Bool). cond b (Some n) (place_in rest placeholder)) same) ∙ e in
        let first : insert_entry int_eq ((p, n) ∷ rest) placeholder place ≡ (p, place) ∷ rest = ap (λ (b : Bool). cond b ((p, place) ∷ rest) ((p, n) ∷ insert_entry int_eq rest placeholder place)) same in
        let then : insert_entry int_eq ((p, place) ∷ rest) placeholder earlier ≡ (p, earlier) ∷ rest = ap (λ (b : Bool). cond b ((p, earlier) ∷ rest) ((p, place) ∷ insert_entry int_eq rest placeholder earlier)) same in
        let n-is : earlier ≡ n = cc in
        ap (λ (es : Bindings). insert_entry int_eq es placeholder earlier) first ∙ then ∙ ap (λ (k : ℕ). (p, k) ∷ rest) n-is
    at later false other =
        let there : place_in rest placeholder ≡ Some earlier = sym (ap (λ (b : Bool). cond b (Some n) (place_in rest placeholder)) other) ∙ e in
        let first : insert_entry int_eq ((p, n) ∷ rest) placeholder place ≡ (p, n) ∷ insert_entry int_eq rest placeholder place = ap (λ (b : Bool). cond b ((p, place) ∷ rest) ((p, n) ∷ insert_entry int_eq rest placeholder place)) other in
        let then : insert_entry int_eq ((p, n) ∷ insert_entry int_eq rest placeholder place) placeholder earlier ≡ (p, n) ∷ insert_entry int_eq (insert_entry int_eq rest placeholder place) placeholder earlier = ap (λ (b : Bool). cond b ((p, earlier) ∷ insert_entry int_eq rest placeholder place) ((p, n) ∷ insert_entry int_eq (insert_entry int_eq rest placeholder place) placeholder earlier)) other in
        ap (λ (es : Bindings). insert_entry int_eq es placeholder earlier) first ∙ then ∙ ap (λ (es : Bindings). (p, n) ∷ es) (later there)
