use Rattle.upload_check.proofs.Named.{nodes_added, members_added}
use Rattle.upload_check.proofs.references.add_named.Goals as goal

pub returns-in-Way : goal.returns-in-Way
returns-in-Way c =
    nodes_added c.add_nodes.result c.args.keys.now c.in-Way.nodes c.items.result.now c.args.content.now c.args.listed.now.items c.add_nodes.new.listed.items
    c.items.ensures c.in-Way.is c.add_nodes.ensures

pub returns-in-Relation : goal.returns-in-Relation
returns-in-Relation c =
    members_added c.add_members.result c.args.keys.now c.in-Relation.members c.items-in-Relation.result.now c.args.content.now c.args.listed.now.items c.add_members.new.listed.items
    c.items-in-Relation.ensures c.in-Relation.is c.add_members.ensures
