-- What was found, as the bytes of its answer.
use Rattle.std.specs.Prelude.{ℕ, List}
use Rattle.osm_change.specs.declared.answers.Answer.TheVariants as answers
use Rattle.map_machine.specs.Machine.{bytes_of}
use Rattle.map_machine.specs.declared.found.Found.{Found}
use Rattle.map_machine.specs.declared.found.Found.TheVariants.{Written, Elements, Change}

abbrev pub told : Found → List ℕ
told (Written bytes) = bytes
told (Elements bounds rows) = bytes_of (answers.Elements bounds rows)
told (Change rows) = bytes_of (answers.Change rows)
