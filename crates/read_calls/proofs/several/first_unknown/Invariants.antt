use Rattle.std.proofs.Common.{◌≡◌, [], take}
use Rattle.std.specs.Prelude.{◌==◌, filter}
use Rattle.osm_element.specs.Elements.{key, count}
use Rattle.read_calls.proofs.several.first_unknown.Given as goal

abbrev pub invariant-loop-id : goal.invariant-loop-id
invariant-loop-id l = filter (λ id. count l.store.elements (key l.kind id) == 0) (take l.id-index l.ids) ≡ []
