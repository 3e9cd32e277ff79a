-- What the next byte is of a text that is read piece by piece.
use Rattle.std.specs.Prelude.{◌≡◌, ℕ, ◌<◌, ◌==◌, Bool, true, false, if◌then◌else◌, List, [], ◌∷◌, ◌++◌, length}
use Rattle.journal_input.specs.Gate.{before_gate, before_gate_from}
use Rattle.journal_input.specs.declared.gate.Place.{Place}
use Rattle.journal_input.specs.declared.gate.Place.TheVariants.{LineStart, InLine, BehindGate}

-- whether the first byte is that of a gate
abbrev pub has_gate_first : List ℕ → Bool
has_gate_first [] = false
has_gate_first (b ∷ bs) = b == 35

-- what the next byte is, behind so much of a line
abbrev pub place_of : List ℕ → Place
place_of [] = LineStart
place_of (b ∷ bs) = InLine

-- what the next byte is, behind this one
abbrev pub next_place : Place → ℕ → Place
next_place LineStart b = if b == 35 then BehindGate else if b == 10 then LineStart else InLine
next_place InLine b = if b == 10 then LineStart else InLine
next_place BehindGate b = BehindGate

-- No gate is in the text, and this is what the next byte is; or there is one, so whatever follows doesn't count.
abbrev pub Sees : Place → List ℕ → Type 0
Sees LineStart text = (more : List ℕ) → before_gate (text ++ more) ≡ text ++ before_gate more
Sees InLine text = (more : List ℕ) → before_gate (text ++ more) ≡ text ++ before_gate_from false more
Sees BehindGate text = (more : List ℕ) → length (before_gate (text ++ more)) < length text

-- whether all of the text counts
abbrev pub IsOpen : Bool → List ℕ → Type 0
IsOpen true text = before_gate text ≡ text
IsOpen false text = length (before_gate text) < length text
