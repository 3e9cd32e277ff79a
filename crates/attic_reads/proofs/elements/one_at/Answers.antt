use Rattle.std.proofs.Common.{sym, ap, ◌∙◌, subst}
use Rattle.osm_element.specs.declared.elements.Elements.{Elements}
use Rattle.osm_model.specs.Past.{elements_by, one_unmarked}
use Rattle.attic_reads.specs.Attic.{AreInOrder}
use Rattle.attic_reads.proofs.elements.one_at.Goals as goal

pub one-requires : goal.one-requires
one-requires c = let P : Elements → Type 0 = λ E. AreInOrder E in subst P (sym c.store.ensures) (λ k. (c.laws.ensures.stamped.each k).rising)

pub returns : goal.returns
returns c = c.one.ensures ∙ ap (λ (E : Elements). one_unmarked (elements_by c.args.at E) c.args.key) c.store.ensures
