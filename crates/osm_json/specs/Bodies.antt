-- A body that is an object, by its members.
use Rattle.std.specs.Prelude.{◌≡◌, Option, Some, None, option_map, Result, Ok, Err}
use Rattle.serde_json.specs.Data.{Data}
use Rattle.serde_json.specs.Find.{as_object}
use Rattle.osm_json.specs.declared.fault.BodyFault.{BodyFault}
use Rattle.osm_json.specs.declared.fault.BodyFault.TheVariants.{NotJson, Shape}
use Rattle.osm_json.specs.Found.{fields_of}
use Rattle.osm_json.specs.declared.operation.Fields.{Fields}

-- the data is there, and these are the members of the object that it is
pub record IsOf (object : Option Fields) (read : Option Data) : Type 0 where
  pub source : Data
  pub there : read ≡ Some source
  pub members : object ≡ option_map fields_of (as_object source)

abbrev pub Finds : Result (Option Fields) BodyFault → Option Data → Type 0
Finds (Ok object) read = IsOf object read
Finds (Err BodyFault.Memory) read = Unit {0}
Finds (Err NotJson) read = read ≡ None
Finds (Err (Shape op)) read = ⊥
