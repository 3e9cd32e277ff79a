use Rattle.std.proofs.Common.{◌≡◌, ◌++◌, map, drop}
use Rattle.osm_element.specs.Elements.{key}
use Rattle.osm_change.specs.Keys.{id_of}
use Rattle.upload_check.proofs.references.add_members.Given as goal

abbrev pub invariant-loop-member : goal.invariant-loop-member
invariant-loop-member l =
    l.fn.listed.items ++ map (λ m. key m.kind (id_of l.keys m.name)) l.members
    ≡ l.listed.items ++ map (λ m. key m.kind (id_of l.keys m.name)) (drop l.member-index l.members)
