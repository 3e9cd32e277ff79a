use Rattle.std.proofs.Common.{Bool, ◌&&◌, sym, ap, ◌∙◌}
use Rattle.std.specs.List.{list_any}
use Rattle.osm_base.specs.Key.{lists_key}
use Rattle.osm_element.specs.Elements.{key, refs}
use Rattle.osm_element.specs.Held.{held_content}
use Rattle.osm_element.specs.declared.contents.Held.{Held}
use Rattle.rising_lists.specs.Ids.{lists_id}
use Rattle.plain_reads.proofs.Meets.{none_meets, way_meets, relation_meets}
use Rattle.plain_reads.proofs.met.content_lists.Goals as goal

pub returns-in-Node : goal.returns-in-Node
returns-in-Node c =
    sym (ap (λ (x : Held). list_any (λ n. lists_key (refs (held_content x)) (key c.args.kind n)) c.args.ids.now) c.in-Node.is ∙ none_meets c.args.ids.now)

pub returns-then-is : goal.returns-then-is
returns-then-is c =
    c.way_lists.ensures
    ∙ sym (ap (λ (b : Bool). b && list_any (λ node. lists_id c.args.ids.now node) c.in-Way.nodes.now) (sym c.is.ensures ∙ c.if-is.true))
    ∙ way_meets c.args.kind c.args.ids.now c.in-Way.nodes.now
    ∙ sym (ap (λ (x : Held). list_any (λ n. lists_key (refs (held_content x)) (key c.args.kind n)) c.args.ids.now) c.in-Way.is)

pub returns-else-is : goal.returns-else-is
returns-else-is c =
    c.if-is.false
    ∙ sym (ap (λ (b : Bool). b && list_any (λ node. lists_id c.args.ids.now node) c.in-Way.nodes.now) (sym c.is.ensures ∙ c.if-is.false))
    ∙ way_meets c.args.kind c.args.ids.now c.in-Way.nodes.now
    ∙ sym (ap (λ (x : Held). list_any (λ n. lists_key (refs (held_content x)) (key c.args.kind n)) c.args.ids.now) c.in-Way.is)

pub returns-in-Relation : goal.returns-in-Relation
returns-in-Relation c =
    c.relation_lists.ensures
    ∙ relation_meets c.args.kind c.args.ids.now c.in-Relation.members.now
    ∙ sym (ap (λ (x : Held). list_any (λ n. lists_key (refs (held_content x)) (key c.args.kind n)) c.args.ids.now) c.in-Relation.is)
