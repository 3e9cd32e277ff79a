-- What a line was read as.
use Rattle.std.specs.Prelude.{◌≡◌, Option, Some, None, Result, Ok, Err, ⊤}
use Rattle.line_text.specs.declared.faults.LineFault.{LineFault}
use Rattle.line_text.specs.declared.faults.LineFault.TheVariants.{NotLine, Memory}

-- the answer is what was found, unless memory ran out
abbrev pub Finds : {E : Type 0} → Result E LineFault → Option E → Type 0
Finds (Ok e) found = found ≡ Some e
Finds (Err Memory) found = ⊤
Finds (Err NotLine) found = found ≡ None

-- the answer is this entry, unless memory ran out
abbrev pub IsEntryRead : {E : Type 0} → Result E LineFault → E → Type 0
IsEntryRead (Ok found) e = found ≡ e
IsEntryRead (Err Memory) e = ⊤
IsEntryRead (Err NotLine) e = ⊥
