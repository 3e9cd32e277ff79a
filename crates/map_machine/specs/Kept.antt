-- What a keeper has at hand of what it keeps.
use Rattle.std.specs.Prelude.{◌≡◌, List, [], ◌∷◌, ◌++◌, Option, IfSome}
use Rattle.osm_model.specs.declared.commands.Entry.{Entry}

-- the entry at hand, if there is one, is the last of these
abbrev pub IsLastOf : List Entry → Option Entry → Type 0
IsLastOf entries last = IfSome last (λ e. (before : List Entry) × (entries ≡ before ++ e ∷ []))
