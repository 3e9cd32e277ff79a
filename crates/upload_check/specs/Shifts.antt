-- One user more, or one less, of some elements.
use Rattle.std.specs.Prelude.{◌≡◌, ℕ, ◌+◌, ◌<◌, ◌^◌, Bool, true, not, ◌&&◌, List}
use Rattle.osm_base.specs.Key.{key_eq, lists_key}
use Rattle.osm_base.specs.declared.keys.Key.{Key}
use Rattle.osm_element.specs.declared.elements.Elements.{Elements}
use Rattle.upload_check.specs.Overlay.{Notes, IsNoted}
use Rattle.upload_check.specs.Effects.{user_counts, SameElements, StayNoted}
use Rattle.upload_check.specs.Users.{others, one_if}
use Rattle.upload_check.specs.declared.shifts.Shift.{Shift}
use Rattle.upload_check.specs.declared.shifts.Shift.TheVariants.{More, Less}

abbrev pub opposite : Shift → Shift
opposite More = Less
opposite Less = More

-- by how much
abbrev pub Goes : Shift → ℕ → ℕ → ℕ → Type 0
Goes More by was now = now ≡ was + by
Goes Less by was now = was ≡ now + by

-- one more, or one less, of each that passes a test
abbrev pub AreShifted : Shift → (Key → Bool) → (Key → ℕ) → (Key → ℕ) → Type 0
AreShifted s p was now = (b : Key) → Goes s (one_if (p b)) (was b) (now b)

-- there is one to take
abbrev pub HasOne : Shift → ℕ → Type 0
HasOne More n = Unit {0}
HasOne Less n = 0 < n

-- the number that it comes to is one that there is
abbrev pub Fits : Shift → ℕ → Type 0
Fits More n = n + 1 < 2 ^ 64
Fits Less n = 0 < n

-- one user more, or one less, of an element takes no memory
pub record IsReady (s : Shift) (E : Elements) (n : Notes) (k : Key) : Type 0 where
  pub noted : IsNoted n k
  pub fits : Fits s (user_counts E n k)

-- the same of each that passes a test
abbrev pub AreReady : Shift → (Key → Bool) → Elements → Notes → Type 0
AreReady s p E n = (b : Key) → p b ≡ true → IsReady s E n b

-- one user more, or one less, of each that passes a test. Taking it back takes no memory
pub record IsShifted (s : Shift) (p : Key → Bool) (E : Elements) (old new : Notes) : Type 0 where
  pub counts : AreShifted s p (user_counts E old) (user_counts E new)
  pub same : SameElements E old new
  pub stay : StayNoted old new
  pub back : AreReady (opposite s) p E new

-- those of a list that another hasn't, but for the element itself
abbrev pub apart : Key → List Key → List Key → Key → Bool
apart k ks left b = others k ks b && not (lists_key left b)

-- one key, unless it stays as it is
abbrev pub unless : Bool → Key → Key → Bool
unless stays c b = key_eq b c && not stays
