use Rattle.std.proofs.Common.{sym, subst}
use Rattle.osm_element.specs.declared.elements.Elements.{Elements}
use Rattle.attic_reads.specs.Attic.{AreInOrder}
use Rattle.attic_reads.proofs.histories.ordered.Goals as goal

pub returns-clause-order : goal.returns-clause-order
returns-clause-order c = let P : Elements → Type 0 = λ E. AreInOrder E in subst P (sym c.store.ensures) (λ k. (c.laws.ensures.stamped.each k).rising)
