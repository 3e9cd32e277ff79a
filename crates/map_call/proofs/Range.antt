-- Ids that were given.
use Rattle.std.proofs.Common.{◌≡◌, ◌<◌, ◌≤◌, Bool, true, List, [], length, ⊎_elim, refl, sym, ap, ◌∙◌}
use Rattle.std.specs.Prelude.{false, is_some, option_and_then}
use Rattle.std.specs.Option.{option_map_or}
use Rattle.std.proofs.lemmas.Bool.{false≢true}
use Rattle.osm_base.specs.Key.{lists_key}
use Rattle.osm_base.specs.Place.{Position}
use Rattle.osm_base.specs.declared.keys.Key.{Key}
use Rattle.osm_element.specs.Version.{Version}
use Rattle.osm_element.specs.declared.elements.Elements.{Elements}
use Rattle.osm_element.specs.Elements.{histories, history, is_visible, position, position_in, refs_in}
use Rattle.osm_element.proofs.Pushed.{last_content}
use Rattle.osm_element.proofs.Used.{known}
use Rattle.osm_model.specs.Selection.{lists}

abbrev pub IsGiven : Elements → Key → Type 0
IsGiven E a = (0 < a.id) × (a.id ≤ length (histories E a.kind))

-- what an element without a history doesn't pass
passes : (E : Elements) (a : Key) (f : List Version → Bool) → f [] ≡ false → f (history E a) ≡ true → IsGiven E a
passes E a f never some = ⊎_elim (λ none. absurd (false≢true (sym never ∙ (sym (ap f none) ∙ some)))) (λ within. within) (known E a)

pub given-lists : (E : Elements) (a b : Key) → lists E a b ≡ true → IsGiven E a
given-lists E a b h = passes E a (λ vs. lists_key (refs_in (last_content vs)) b) refl h

pub given-visible : (E : Elements) (a : Key) → is_visible E a ≡ true → IsGiven E a
given-visible E a h = passes E a (λ vs. is_some (last_content vs)) refl h

pub given-position : (E : Elements) (a : Key) (f : Position → Bool) → option_map_or f (position E a) false ≡ true → IsGiven E a
given-position E a f h = passes E a (λ vs. option_map_or f (option_and_then position_in (last_content vs)) false) refl h
