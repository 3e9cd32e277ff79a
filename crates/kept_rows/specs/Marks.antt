-- How the entries of the rows are written: marks, which are yes or no.
use Rattle.std.specs.Prelude.{◌≡◌, ℕ, Bool, List, [], ◌∷◌, ◌++◌, if◌then◌else◌}
use Rattle.std.specs.List.{flat_map}
use Rattle.std.proofs.Common.{ap}
use Rattle.std.proofs.lemmas.Grind.{flat_map-append}

-- {1} and {0}
abbrev pub mark_line : Bool → List ℕ
mark_line mark = if mark then 123 ∷ 49 ∷ 125 ∷ 10 ∷ [] else 123 ∷ 48 ∷ 125 ∷ 10 ∷ []

abbrev pub mark_lines : List Bool → List ℕ
mark_lines marks = flat_map mark_line marks

-- behind a header of one letter
abbrev pub mark_text : List Bool → List ℕ
mark_text marks = 109 ∷ 10 ∷ mark_lines marks

pub marks_more : (marks others : List Bool) → mark_text (marks ++ others) ≡ mark_text marks ++ mark_lines others
marks_more marks others = ap (λ (l : List ℕ). 109 ∷ 10 ∷ l) (flat_map-append mark_line marks others)
