-- The users of an element, id by id.
use Rattle.std.proofs.Common.{◌≡◌, ℕ, suc, List, [], ◌∷◌, ◌++◌, sym, ap, ◌∙◌, append_assoc}
use Rattle.std.specs.Prelude.{filter}
use Rattle.std.proofs.lemmas.List.Elements.{filter-append}
use Rattle.osm_base.specs.declared.keys.Kind.{Kind}
use Rattle.osm_base.specs.declared.keys.Key.{Key}
use Rattle.osm_element.specs.declared.elements.Elements.{Elements}
use Rattle.osm_element.specs.Elements.{key, keys_to, uses}

pub users_step :
    (E : Elements) (kind : Kind) (used : Key) (before now next : List Key) (n m : ℕ)
    → m ≡ suc n
    → now ≡ before ++ filter (λ a. uses E a used) (keys_to kind n)
    → next ≡ now ++ filter (λ a. uses E a used) (key kind m ∷ [])
    → next ≡ before ++ filter (λ a. uses E a used) (keys_to kind m)
users_step E kind used before now next n m one_more sofar more =
    (more
    ∙ ap (λ (l : List Key). l ++ filter (λ a. uses E a used) (key kind m ∷ [])) sofar
    ∙ append_assoc before (filter (λ a. uses E a used) (keys_to kind n)) (filter (λ a. uses E a used) (key kind m ∷ []))
    ∙ ap (λ (i : ℕ). before ++ (filter (λ a. uses E a used) (keys_to kind n) ++ filter (λ a. uses E a used) (key kind i ∷ []))) one_more)
    ∙ ap (λ (l : List Key). before ++ l) (sym (filter-append (λ (a : Key). uses E a used) (keys_to kind n) (key kind (suc n) ∷ [])))
    ∙ ap (λ (i : ℕ). before ++ filter (λ a. uses E a used) (keys_to kind i)) (sym one_more)
