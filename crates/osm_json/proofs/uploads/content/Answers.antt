use Rattle.std.proofs.Common.{codes}
use Rattle.osm_change.specs.Document.{member_said}
use Rattle.std.proofs.lemmas.List.Elements.{All-same}
use Rattle.osm_change.specs.Said.{IsSaid, said}
use Rattle.osm_json.specs.Shown.{integer, list_of}
use Rattle.osm_json.specs.Uploads.{given_member}
use Rattle.osm_json.proofs.Tokens.{member_sent, list_sent, sent}
use Rattle.osm_json.proofs.WrittenOps.{names_listed_so, members_listed_so, nodes_said, members_said}
use Rattle.osm_json.proofs.uploads.content.Goals as goal

pub returns-in_ok-end_array-in-Way : goal.returns-in_ok-end_array-in-Way
returns-in_ok-end_array-in-Way c =
    let all = c.args.change.now in
    let ids = list_sent (λ name. integer (said all name)) c.items.result.now (sent c.in_ok-begin_array-in-Way.ensures) c.in_ok-node_list-in-Way.ensures (sent c.in_ok-end_array-in-Way.ensures) in
    rw (c.in-Way.is, ← c.items.ensures, ← names_listed_so) (member_sent (codes "nodes") (list_of (λ name. integer (said all name)) c.items.result.now) (sent c.in_ok-key-in-Way.ensures) ids)

pub returns-in_ok-end_array-in-Relation : goal.returns-in_ok-end_array-in-Relation
returns-in_ok-end_array-in-Relation c =
    let all = c.args.change.now in
    let list = c.items-in-Relation.result.now in
    let members = list_sent (λ m. given_member (member_said all m)) list (sent c.in_ok-begin_array-in-Relation.ensures) c.in_ok-member_list-in-Relation.ensures (sent c.in_ok-end_array-in-Relation.ensures) in
    rw (c.in-Relation.is, ← c.items-in-Relation.ensures, ← members_listed_so) (member_sent (codes "members") (list_of (λ m. given_member (member_said all m)) list) (sent c.in_ok-key-in-Relation.ensures) members)

pub node_list-requires : goal.node_list-requires
node_list-requires c =
    let all = c.args.change.now in
    let h = rw c.in-Way.is at c.requires in
    All-same (IsSaid all) _ _ c.items.ensures (nodes_said all _ h)

pub member_list-requires : goal.member_list-requires
member_list-requires c =
    let all = c.args.change.now in
    let h = rw c.in-Relation.is at c.requires in
    All-same (λ m. IsSaid all m.name) _ _ c.items-in-Relation.ensures (members_said all _ h)
