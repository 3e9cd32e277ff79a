use Rattle.std.proofs.Common.{rules, sym, ◌∙◌}
use Rattle.osm_element.specs.Elements.{uses, histories}
use Rattle.std.specs.Prelude.{length}
use Rattle.osm_element.proofs.FirstUser.{first_found}
use Rattle.osm_element.proofs.usage.first_of_kind.Goals as goal

pub returns-then-uses : goal.returns-then-uses
returns-then-uses c = sym (first_found (λ a. uses c.args.elements.now a c.args.used) c.args.kind c.loop-place.place (length (histories c.args.elements.now c.args.kind))
    c.loop-place.invariant (sym c.uses.ensures ∙ c.if-uses.true) (search rules))
