-- Elements of which none is unknown have ids that were given.
use Rattle.std.proofs.Common.{◌≡◌, ℕ, ◌<◌, ◌≤◌, Bool, true, false, cond, eqb, ◌⊎◌, inl, inr, ⊎_elim, List, [], ◌∷◌, length, None, refl, sym, ap, ◌∙◌}
use Rattle.std.specs.Prelude.{◌==◌, ◌||◌, filter, slice_get}
use Rattle.std.proofs.lemmas.Bool.{eqb-true, false≢true}
use Rattle.osm_base.specs.declared.keys.Kind.{Kind}
use Rattle.osm_element.specs.Elements.{key, count, histories}
use Rattle.osm_element.specs.declared.elements.Elements.{Elements}
use Rattle.osm_element.proofs.Later.{given-there}
use Rattle.osm_model.specs.Reads.{first_unknown}
use Rattle.rising_lists.specs.Ids.{lists_id}

or-cases : (p q : Bool) → p || q ≡ true → (p ≡ true) ⊎ (q ≡ true)
or-cases true q h = inl refl
or-cases false q h = inr h

pub all_given :
    (E : Elements) (kind : Kind) (ids : List ℕ)
    → first_unknown E kind ids ≡ None
    → (id : ℕ)
    → lists_id ids id ≡ true
    → (0 < id) × (id ≤ length (histories E kind))
all_given E kind [] none id there = absurd (false≢true there)
all_given E kind (i ∷ ids) none id there = by_test (count E (key kind i) == 0) refl none (λ rest. all_given E kind ids rest id)
  where
    is_unknown : ℕ → Bool
    is_unknown n = count E (key kind n) == 0

    by_test :
        (b : Bool)
        → is_unknown i ≡ b
        → slice_get (cond b (i ∷ filter is_unknown ids) (filter is_unknown ids)) 0 ≡ None
        → (slice_get (filter is_unknown ids) 0 ≡ None → lists_id ids id ≡ true → (0 < id) × (id ≤ length (histories E kind)))
        → (0 < id) × (id ≤ length (histories E kind))
    by_test true known none others = cc
    by_test false known none others =
        ⊎_elim
        (λ same. given-there E (key kind id) (sym (ap is_unknown (eqb-true i id same)) ∙ known))
        (others none)
        (or-cases (eqb i id) (lists_id ids id) there)
