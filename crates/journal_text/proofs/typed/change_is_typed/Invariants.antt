use Rattle.std.proofs.Common.{take}
use Rattle.std.specs.Prelude.{All}
use Rattle.osm_json.specs.Uploads.{HasRisingTags}
use Rattle.journal_text.proofs.typed.change_is_typed.Given as goal

abbrev pub invariant-loop-operation : goal.invariant-loop-operation
invariant-loop-operation l = All HasRisingTags (take l.operation-index l.operations)
