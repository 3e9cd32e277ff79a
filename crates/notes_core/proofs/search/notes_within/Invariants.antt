use Rattle.std.proofs.Common.{◌≡◌, take}
use Rattle.std.specs.Prelude.{filter}
use Rattle.notes_core.specs.Search.{is_shown}
use Rattle.notes_core.specs.World.{state_of}
use Rattle.notes_core.proofs.search.notes_within.Given as goal

abbrev pub invariant-loop-id : goal.invariant-loop-id
invariant-loop-id l = l.ids.items ≡ filter (is_shown (state_of l.world) l.within l.closed) (take l.id-index l.id-items)
