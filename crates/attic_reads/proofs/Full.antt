-- What a full read of the past shows: of what was gathered, what is shown.
use Rattle.std.proofs.Common.{◌≡◌, Bool, true, false, ◌&&◌, List, refl, sym, ap, ◌∙◌}
use Rattle.std.specs.Prelude.{filter}
use Rattle.osm_base.specs.Key.{lists_key, IsRising}
use Rattle.osm_base.specs.declared.keys.Key.{Key}
use Rattle.osm_base.proofs.KeyLists.{rising-filter, lists-filter}
use Rattle.osm_element.specs.Elements.{keys, count, is_visible}
use Rattle.osm_element.specs.declared.elements.Elements.{Elements}
use Rattle.osm_element.proofs.Used.{filter-are}
use Rattle.osm_model.specs.Past.{is_last_shown, in_full_unmarked}
use Rattle.osm_model.specs.Reads.{is_shown}
use Rattle.osm_model.proofs.Gathered.{visible-listed}

first : (p q : Bool) → p && q ≡ true → p ≡ true
first true q h = refl
first false q h = cc

and-false : (b : Bool) → b && false ≡ false
and-false true = refl
and-false false = refl

-- what is shown is among the keys
shown-listed : (E : Elements) (x : Key) → is_last_shown E x ≡ true → lists_key (keys E) x ≡ true
shown-listed E x shown = visible-listed E x (first (is_visible E x) (is_shown E x false (count E x)) shown)

-- those that pass, of a list in order
pub shown-are :
    (E : Elements) (k : Key) (gathered rising : List Key)
    → ((x : Key) → lists_key gathered x ≡ in_full_unmarked E k x)
    → IsRising rising
    → ((x : Key) → lists_key rising x ≡ lists_key gathered x)
    → filter (is_last_shown E) rising ≡ filter (λ x. in_full_unmarked E k x && is_last_shown E x) (keys E)
shown-are E k gathered rising found up same =
    filter-are E (λ x. in_full_unmarked E k x && is_last_shown E x) (filter (is_last_shown E) rising) (rising-filter rising (is_last_shown E) up)
    (λ x. lists-filter rising (is_last_shown E) x
    ∙ ap (λ (b : Bool). b && is_last_shown E x) (same x ∙ found x)
    ∙ among x (in_full_unmarked E k x) (is_last_shown E x) refl)
  where
    among : (x : Key) (p q : Bool) → is_last_shown E x ≡ q → p && q ≡ lists_key (keys E) x && (p && q)
    among x true true shown = sym (ap (λ (b : Bool). b && true) (shown-listed E x shown))
    among x true false shown = sym (and-false (lists_key (keys E) x))
    among x false q shown = sym (and-false (lists_key (keys E) x))
