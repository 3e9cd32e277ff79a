-- The places that placeholders of one kind are bound to.
use Rattle.std.specs.Prelude.{ℕ, ℤ, Bool, List, [], ◌∷◌, ◌++◌, Option, is_some, if◌then◌else◌}
use Rattle.std.specs.Map.{lookup}
use Rattle.std.specs.Ordering.{int_eq}

-- a placeholder and its place, each placeholder once
abbrev pub Bindings : Type 0
Bindings = List (ℤ × ℕ)

abbrev pub place_in : Bindings → ℤ → Option ℕ
place_in bindings placeholder = lookup (int_eq placeholder) bindings

abbrev pub is_bound_in : Bindings → ℤ → Bool
is_bound_in bindings placeholder = is_some (place_in bindings placeholder)

-- one that is bound already keeps its place
abbrev pub with_binding : Bindings → ℤ → ℕ → Bindings
with_binding bindings placeholder place =
    if is_bound_in bindings placeholder then bindings else bindings ++ (placeholder, place) ∷ []
