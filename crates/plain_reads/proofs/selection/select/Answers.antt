use Rattle.std.proofs.Common.{ℕ, List, sym, ap, ◌∙◌}
use Rattle.plain_reads.specs.Met.{ways_listing, nodes_with_listed, relations_listing, relations_with_listing}
use Rattle.plain_reads.proofs.Chosen.{selection-is}
use Rattle.plain_reads.proofs.selection.select.Goals as goal

pub returns : goal.returns
returns c =
    let E = c.args.elements.now in
    selection-is E c.args.within.now c.args.base.items c.of-2.result c.of.result c.in_ok-first.first.items c.of-3.result
    c.requires
    (c.of-2.ensures ∙ c.in_ok-ways.ensures ∙ ap (ways_listing E) c.as_slice.ensures.value)
    (c.of.ensures ∙ c.in_ok-nodes.ensures ∙ ap (nodes_with_listed E c.args.base.items) (c.as_slice-2.ensures.value ∙ sym c.of-2.ensures))
    (c.in_ok-first.ensures
    ∙ ap (λ (l : List ℕ). relations_listing E l c.as_slice-4.result.now) (c.as_slice-3.ensures.value ∙ sym c.of.ensures)
    ∙ ap (relations_listing E c.of.result) (c.as_slice-4.ensures.value ∙ sym c.of-2.ensures))
    (c.of-3.ensures ∙ c.in_ok-relations.ensures ∙ ap (relations_with_listing E) c.as_slice-5.ensures.value)
