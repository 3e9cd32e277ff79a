use Rattle.std.proofs.Common.{◌∙◌, map, ap, sym}
use Rattle.osm_base.specs.declared.keys.Kind.TheVariants as kind
use Rattle.osm_element.specs.Elements.{key, refs}
use Rattle.osm_element.specs.declared.contents.Content.{Content}
use Rattle.osm_element.specs.declared.contents.Member.{Member}
use Rattle.osm_change.specs.Keys.{id_of}
use Rattle.osm_change.specs.declared.operations.Name.{Name}
use Rattle.osm_model.specs.Names.{with_ids}
use Rattle.osm_world.proofs.Planned.{nodes_named, members_named}
use Rattle.osm_world.proofs.plans.keys_listed.Goals as goal

pub returns-in_ok-node_keys-in-Way : goal.returns-in_ok-node_keys-in-Way
returns-in_ok-node_keys-in-Way c =
    c.in_ok-node_keys-in-Way.ensures
    ∙ ap (map (λ (name : Name). key kind.Node (id_of c.args.keys.now name))) c.items.ensures
    ∙ nodes_named c.args.keys.now c.in-Way.nodes
    ∙ ap (λ (x : Content Name). refs (with_ids c.args.keys.now x)) (sym c.in-Way.is)

pub returns-in_ok-member_keys-in-Relation : goal.returns-in_ok-member_keys-in-Relation
returns-in_ok-member_keys-in-Relation c =
    c.in_ok-member_keys-in-Relation.ensures
    ∙ ap (map (λ (m : Member Name). key m.kind (id_of c.args.keys.now m.name))) c.items-in-Relation.ensures
    ∙ members_named c.args.keys.now c.in-Relation.members
    ∙ ap (λ (x : Content Name). refs (with_ids c.args.keys.now x)) (sym c.in-Relation.is)
