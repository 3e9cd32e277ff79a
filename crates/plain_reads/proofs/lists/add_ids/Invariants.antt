use Rattle.std.proofs.Common.{◌≡◌, ◌++◌, map, take}
use Rattle.osm_element.specs.Elements.{key}
use Rattle.osm_model.specs.Reads.{current_shown}
use Rattle.plain_reads.proofs.lists.add_ids.Given as goal

abbrev pub invariant-loop-id : goal.invariant-loop-id
invariant-loop-id l = l.found.items ≡ l.fn.found.items ++ map (λ id. current_shown l.elements (key l.kind id)) (take l.id-index l.ids)
