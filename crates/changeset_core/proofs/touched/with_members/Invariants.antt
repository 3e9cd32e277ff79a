use Rattle.std.proofs.Common.{◌≡◌, take}
use Rattle.std.specs.Prelude.{map}
use Rattle.osm_element.specs.Elements.{key_of_member}
use Rattle.changeset_core.specs.Changeset.{widen_by}
use Rattle.changeset_core.proofs.touched.with_members.Given as goal

abbrev pub invariant-loop-member : goal.invariant-loop-member
invariant-loop-member g l = l.area ≡ widen_by (g.P.Places.elements l.places) l.initial.area (map key_of_member (take l.member-index l.members))
