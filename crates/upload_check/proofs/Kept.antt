-- What stays: where elements stand, and of which something is noted.
use Rattle.std.proofs.Common.{◌≡◌, Bool, true, false, Some, refl, ap, ◌∙◌}
use Rattle.std.specs.Prelude.{is_some, if◌then◌else◌}
use Rattle.osm_base.specs.Key.{key_eq}
use Rattle.osm_base.specs.declared.keys.Key.{Key}
use Rattle.osm_element.specs.declared.elements.Elements.{Elements}
use Rattle.upload_check.specs.Overlay.{Notes, noted, standing_in}
use Rattle.upload_check.specs.Effects.{AreAsBefore, StayNoted}
use Rattle.upload_check.specs.declared.standings.Standing.{Standing}

-- ---- one after the other

pub all_before : (E : Elements) (a b : Notes) → b ≡ a → AreAsBefore E a b
all_before E a b same k = ap (λ (n : Notes). standing_in E n k) same

pub all_stay : (n : Notes) → StayNoted n n
all_stay n k there = there

pub stay_after : (a b c : Notes) → StayNoted a b → StayNoted b c → StayNoted a c
stay_after a b c first next k there = next k (first k there)

pub stay_same : (a b : Notes) → b ≡ a → StayNoted a b
stay_same a b same k there = ap (λ (n : Notes). is_some (noted n k)) same ∙ there

-- ---- one element is noted

-- of each element
abbrev pub Sets : Notes → Notes → Key → Standing → Type 0
Sets old new k at = (b : Key) → noted new b ≡ (if key_eq b k then Some at else noted old b)

pub set_stay : (old new : Notes) (k : Key) (at : Standing) → Sets old new k at → StayNoted old new
set_stay old new k at each b there = ap is_some (each b) ∙ along (key_eq b k)
  where
    along : (p : Bool) → is_some (if p then Some at else noted old b) ≡ true
    along true = refl
    along false = there
