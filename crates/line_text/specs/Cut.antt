-- Texts that are cut into parts.
use Rattle.std.specs.Prelude.{◌≡◌, ℕ, List, [], ◌∷◌, ◌++◌}

-- The text was cut behind the byte 10 of a line.
pub record IsCut (text front back : List ℕ) : Type 0 where
  pub before : List ℕ
  pub front_is : front ≡ before ++ 10 ∷ []
  pub is : text ≡ before ++ 10 ∷ back
