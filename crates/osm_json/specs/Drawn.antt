-- For private clauses: a value that must be there.
use Rattle.std.specs.Prelude.{Option, Some, None, Result, Ok, Err}
use Rattle.osm_json.specs.declared.fault.BodyFault.{BodyFault}
use Rattle.osm_json.specs.declared.fault.BodyFault.TheVariants as bodies
use Rattle.osm_json.specs.declared.fault.ReadFault.{ReadFault}
use Rattle.osm_json.specs.declared.fault.ReadFault.TheVariants.{NotJson, Memory}

abbrev pub drawn_of : {A : Type 0} → Result (Option A) ReadFault → Result A BodyFault
drawn_of (Ok (Some x)) = Ok x
drawn_of (Ok None) = Err (bodies.Shape 0)
drawn_of (Err NotJson) = Err bodies.NotJson
drawn_of (Err Memory) = Err bodies.Memory
