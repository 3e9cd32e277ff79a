-- What of a text counts: what stands before its gate.
use Rattle.std.specs.Prelude.{ℕ, ◌==◌, Bool, true, ◌&&◌, List, [], ◌∷◌, if◌then◌else◌}

-- a byte `#` at a line's beginning is a gate, and the text ends before it; it is told whether a line begins at the first byte
abbrev pub before_gate_from : Bool → List ℕ → List ℕ
before_gate_from begins [] = []
before_gate_from begins (b ∷ bs) = if begins && (b == 35) then [] else b ∷ before_gate_from (b == 10) bs

-- the text up to its gate, and the whole text where there is none
abbrev pub before_gate : List ℕ → List ℕ
before_gate text = before_gate_from true text
