use Rattle.std.proofs.Common.{◌≡◌, map, take}
use Rattle.osm_element.specs.Elements.{key}
use Rattle.osm_model.specs.Reads.{current_shown}
use Rattle.read_calls.proofs.several.shown_ids.Given as goal

abbrev pub invariant-loop-id : goal.invariant-loop-id
invariant-loop-id l = l.found.items ≡ map (λ id. current_shown l.store.elements (key l.kind id)) (take l.id-index l.ids)
