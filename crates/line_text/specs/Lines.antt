-- The lines of entries.
use Rattle.std.specs.Prelude.{ℕ, List, [], ◌∷◌, ◌++◌}

-- one after another, each ended by byte 10
abbrev pub lines_of : {E : Type 0} → (E → List ℕ) → List E → List ℕ
lines_of line [] = []
lines_of line (e ∷ es) = line e ++ 10 ∷ lines_of line es
