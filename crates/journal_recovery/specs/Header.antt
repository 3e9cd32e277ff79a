-- The first line of a text.
use Rattle.std.specs.Prelude.{ℕ, ◌==◌, Bool, false, List, [], ◌∷◌, length, if◌then◌else◌}

-- one line, with the byte 10 that ends it
abbrev pub is_header : List ℕ → Bool
is_header [] = false
is_header (b ∷ bs) = if b == 10 then length bs == 0 else is_header bs
