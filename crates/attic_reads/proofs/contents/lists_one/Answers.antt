use Rattle.std.proofs.Common.{sym, ap, ◌∙◌}
use Rattle.std.specs.List.{list_any}
use Rattle.osm_base.specs.Key.{lists_key}
use Rattle.osm_element.specs.Elements.{refs}
use Rattle.osm_element.specs.Held.{held_content}
use Rattle.osm_element.specs.declared.contents.Held.{Held}
use Rattle.attic_reads.proofs.Held.{any_node, any_member}
use Rattle.attic_reads.proofs.contents.lists_one.Goals as goal

pub returns-in-Way : goal.returns-in-Way
returns-in-Way c =
    c.has_node.ensures
    ∙ sym (any_node c.args.among.now c.in-Way.nodes.now)
    ∙ ap (λ (held : Held). list_any (λ x. lists_key c.args.among.now x) (refs (held_content held))) (sym c.in-Way.is)

pub returns-in-Relation : goal.returns-in-Relation
returns-in-Relation c =
    c.has_member.ensures
    ∙ sym (any_member c.args.among.now c.in-Relation.members.now)
    ∙ ap (λ (held : Held). list_any (λ x. lists_key c.args.among.now x) (refs (held_content held))) (sym c.in-Relation.is)
