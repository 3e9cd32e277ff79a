use Rattle.std.proofs.Common.{take, flat_map}
use Rattle.osm_json.specs.Sent.{Appends, tokens_of}
use Rattle.notes_core.specs.Search.{numbered}
use Rattle.notes_core.specs.Shown.{row_data}
use Rattle.notes_core.specs.World.{state_of}
use Rattle.notes_core.proofs.answers.write_rows.Given as goal

abbrev pub invariant-loop-id : goal.invariant-loop-id
invariant-loop-id l =
    Appends l.initial.out l.out (flat_map (λ id. flat_map (λ r. tokens_of (row_data r)) (numbered (state_of l.world) id)) (take l.id-index l.ids))
