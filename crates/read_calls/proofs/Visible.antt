-- What is read in full is there: a visible element lists only visible ones.
use Rattle.std.proofs.Common.{◌≡◌, Bool, true, false, ◌⊎◌, inl, inr, ⊎_elim, List, [], ◌∷◌, refl, sym, ap, ◌∙◌}
use Rattle.std.specs.Prelude.{◌==◌, ◌&&◌, ◌||◌, not, filter, Ok}
use Rattle.std.specs.List.{list_any}
use Rattle.std.proofs.lemmas.Bool.{false≢true}
use Rattle.osm_base.specs.Key.{key_eq, lists_key, IsRising}
use Rattle.osm_base.specs.Outcome.{◌>>=◌, refuse_if}
use Rattle.osm_base.specs.declared.keys.Key.{Key}
use Rattle.osm_base.proofs.KeyOrder.{key_eq-same}
use Rattle.osm_change.specs.declared.reads.ReadFault.TheVariants as fault
use Rattle.osm_change.specs.declared.reads.VersionId.{VersionId}
use Rattle.osm_element.specs.Elements.{keys, count, is_visible, refs_of, IsConsistent}
use Rattle.osm_element.specs.declared.elements.Elements.{Elements}
use Rattle.osm_element.proofs.Used.{filter-are}
use Rattle.osm_model.specs.Reads.{current_shown, one, in_full, is_way, way_lists}
use Rattle.osm_model.proofs.Gathered.{visible-listed}

-- what can be read is visible
pub one_visible : (E : Elements) (k : Key) (s : VersionId) → one E k ≡ Ok s → is_visible E k ≡ true
one_visible E k s read = by_tests (count E k == 0) (is_visible E k) read
  where
    by_tests : (unknown seen : Bool) → (refuse_if unknown (fault.NotFound k 0) >>= (λ there. refuse_if (not seen) (fault.Gone k (count E k)) >>= (λ held. Ok (current_shown E k)))) ≡ Ok s → seen ≡ true
    by_tests unknown true read = refl
    by_tests true false read = cc
    by_tests false false read = cc

or-cases : (p q : Bool) → p || q ≡ true → (p ≡ true) ⊎ (q ≡ true)
or-cases true q h = inl refl
or-cases false q h = inr h

second : (p q : Bool) → p && q ≡ true → q ≡ true
second true q h = h
second false q h = absurd (false≢true h)

-- what ways list is visible
ways-visible : (E : Elements) (x : Key) → IsConsistent E → (ws : List Key) → list_any (λ w. is_way w && lists_key (refs_of E w) x) ws ≡ true → is_visible E x ≡ true
ways-visible E x consistent [] there = absurd (false≢true there)
ways-visible E x consistent (w ∷ ws) there =
    ⊎_elim
    (λ here. consistent.seen w x (second (is_way w) (lists_key (refs_of E w) x) here))
    (ways-visible E x consistent ws)
    (or-cases (is_way w && lists_key (refs_of E w) x) (list_any (λ w. is_way w && lists_key (refs_of E w) x) ws) there)

full-visible : (E : Elements) (k x : Key) → IsConsistent E → is_visible E k ≡ true → in_full E k x ≡ true → is_visible E x ≡ true
full-visible E k x consistent seen there =
    ⊎_elim
    (λ itself. ap (is_visible E) (key_eq-same x k itself) ∙ seen)
    (λ other. ⊎_elim
    (λ listed. consistent.seen k x listed)
    (λ listed. ways-visible E x consistent (refs_of E k) listed)
    (or-cases (lists_key (refs_of E k) x) (way_lists E k x) other))
    (or-cases (key_eq x k) (lists_key (refs_of E k) x || way_lists E k x) there)

and-false : (b : Bool) → b && false ≡ false
and-false true = refl
and-false false = refl

-- a list in order that has just what is read in full
pub full-is :
    (E : Elements) (k : Key) (gathered rising : List Key)
    → IsConsistent E
    → is_visible E k ≡ true
    → ((x : Key) → lists_key gathered x ≡ in_full E k x)
    → IsRising rising
    → ((x : Key) → lists_key rising x ≡ lists_key gathered x)
    → rising ≡ filter (in_full E k) (keys E)
full-is E k gathered rising consistent seen found up same =
    filter-are E (in_full E k) rising up (λ x. same x ∙ found x ∙ among x (in_full E k x) refl)
  where
    among : (x : Key) (b : Bool) → in_full E k x ≡ b → b ≡ lists_key (keys E) x && b
    among x true there = sym (ap (λ (b : Bool). b && true) (visible-listed E x (full-visible E k x consistent seen there)))
    among x false there = sym (and-false (lists_key (keys E) x))
