use Rattle.std.proofs.Common.{rules, sym}
use Rattle.std.specs.Prelude.{◌==◌}
use Rattle.osm_element.specs.Elements.{key, count}
use Rattle.read_calls.proofs.Firsts.{first_found}
use Rattle.read_calls.proofs.several.first_unknown.Goals as goal

pub returns-then-count-eq0 : goal.returns-then-count-eq0
returns-then-count-eq0 c =
    sym (first_found (λ id. count c.args.store.now.elements (key c.args.kind id) == 0) c.args.ids.now c.loop-id.id-index 0 c.loop-id-test.true c.loop-id.invariant (search rules))
