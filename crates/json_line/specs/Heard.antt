-- What a part of a line was read as.
use Rattle.std.specs.Prelude.{◌≡◌, List, Some, None, Result, Ok, Err, ⊤}
use Rattle.json.specs.Token.{Token}
use Rattle.line_text.specs.declared.faults.LineFault.{LineFault}
use Rattle.line_text.specs.declared.faults.LineFault.TheVariants.{NotLine, Memory}
use Rattle.osm_json.specs.declared.fault.BodyFault.{BodyFault}
use Rattle.osm_json.specs.declared.fault.BodyFault.TheVariants as bodies
use Rattle.json_line.specs.Read.{Parsed}

-- what a function gave is what was found, unless memory ran out
abbrev pub Hears : {X A : Type 0} → (X → A) → Result X LineFault → Parsed A → List Token → Type 0
Hears view (Ok x) found new = found ≡ Some (view x, new)
Hears view (Err Memory) found new = ⊤
Hears view (Err NotLine) found new = found ≡ None

-- a part of a body that does not read is no line
abbrev pub line_fault : BodyFault → LineFault
line_fault bodies.Memory = Memory
line_fault bodies.NotJson = NotLine
line_fault (bodies.Shape op) = NotLine

abbrev pub heard_of : {A : Type 0} → Result A BodyFault → Result A LineFault
heard_of (Ok x) = Ok x
heard_of (Err fault) = Err (line_fault fault)
